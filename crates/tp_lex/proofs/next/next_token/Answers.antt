use Rattle.std.proofs.Common.{sym}
use Rattle.tp_lex.proofs.StandsBehind.NextToken.{start-ends, comment-ends, rest-ends, ends-short, next-fails, next-none, next-token, next-broken}
use Rattle.tp_lex.proofs.Places.Suffixes.{ends-trans}
use Rattle.tp_lex.proofs.TokensStand.Each.{given}
use Rattle.tp_lex.proofs.TokensStand.Listed.{tokens-next}
use Rattle.tp_lex.proofs.next.next_token.Goals as goal

pub overflow_sub-result : goal.overflow_sub-result
overflow_sub-result c =
    ends-short c.args.text.now _ c.args.at c.utf8.text c.requires c.in-Err.ensures.utf8 (comment-ends c.args.text.now _ _ c.args.at c.range_from.ensures.value c.in-Err.ensures.value)

pub returns-in-Err-clause-value : goal.returns-in-Err-clause-value
returns-in-Err-clause-value c =
    sym (next-fails c.args.text.now _ _ c.args.at c.in-Err.ensures.utf8 c.range_from.ensures.value c.in-Err.ensures.value)

pub returns-then-is_empty-clause-value : goal.returns-then-is_empty-clause-value
returns-then-is_empty-clause-value c =
    sym (next-none c.args.text.now _ _ c.args.at c.range_from.ensures.value c.in-Ok.ensures.value c.if-is_empty.ensures)

pub overflow_sub-from : goal.overflow_sub-from
overflow_sub-from c =
    ends-short c.args.text.now _ c.args.at c.utf8.text c.requires c.in-Ok.ensures.utf8 (start-ends c.args.text.now _ _ c.args.at c.range_from.ensures.value c.in-Ok.ensures.value)

pub overflow_sub-result-in-Ok-form : goal.overflow_sub-result-in-Ok-form
overflow_sub-result-in-Ok-form c =
    let start = start-ends c.args.text.now _ _ c.args.at c.range_from.ensures.value c.in-Ok.ensures.value in
    let rest = rest-ends _ _ _ c.in-Ok-form.ensures.value in
    ends-short c.args.text.now _ c.args.at c.utf8.text c.requires c.in-Ok-form.ensures.utf8 (ends-trans _ _ _ start rest)

pub returns-in-Ok-form-clause-value : goal.returns-in-Ok-form-clause-value
returns-in-Ok-form-clause-value c =
    sym (next-token c.args.text.now _ _ _ c.args.at c.in-Ok-form.kind c.in-Ok.ensures.utf8 c.in-Ok-form.ensures.utf8 c.range_from.ensures.value c.in-Ok.ensures.value c.if-is_empty.ensures c.in-Ok-form.ensures.value)

pub returns-in-Ok-form-clause-place : goal.returns-in-Ok-form-clause-place
returns-in-Ok-form-clause-place c =
    let found = next-token c.args.text.now _ _ _ c.args.at c.in-Ok-form.kind c.in-Ok.ensures.utf8 c.in-Ok-form.ensures.utf8 c.range_from.ensures.value c.in-Ok.ensures.value c.if-is_empty.ensures c.in-Ok-form.ensures.value in
    (given c.args.text.now c.args.at _ c.utf8.text c.requires found).stands

pub returns-in-Err-form-clause-value : goal.returns-in-Err-form-clause-value
returns-in-Err-form-clause-value c =
    sym (next-broken c.args.text.now _ _ c.args.at _ _ c.in-Ok.ensures.utf8 c.range_from.ensures.value c.in-Ok.ensures.value c.if-is_empty.ensures c.in-Err-form.ensures.value c.fault_at.ensures)

pub returns-in-Err-clause-tokens : goal.returns-in-Err-clause-tokens
returns-in-Err-clause-tokens c =
    let found = next-fails c.args.text.now _ _ c.args.at c.in-Err.ensures.utf8 c.range_from.ensures.value c.in-Err.ensures.value in
    λ reach end. tokens-next reach c.args.text.now c.args.at end _ c.utf8.text c.requires found

pub returns-then-is_empty-clause-tokens : goal.returns-then-is_empty-clause-tokens
returns-then-is_empty-clause-tokens c =
    let found = next-none c.args.text.now _ _ c.args.at c.range_from.ensures.value c.in-Ok.ensures.value c.if-is_empty.ensures in
    λ reach end. tokens-next reach c.args.text.now c.args.at end _ c.utf8.text c.requires found

pub returns-in-Ok-form-clause-tokens : goal.returns-in-Ok-form-clause-tokens
returns-in-Ok-form-clause-tokens c =
    let found = next-token c.args.text.now _ _ _ c.args.at c.in-Ok-form.kind c.in-Ok.ensures.utf8 c.in-Ok-form.ensures.utf8 c.range_from.ensures.value c.in-Ok.ensures.value c.if-is_empty.ensures c.in-Ok-form.ensures.value in
    λ reach end. tokens-next reach c.args.text.now c.args.at end _ c.utf8.text c.requires found

pub returns-in-Err-form-clause-tokens : goal.returns-in-Err-form-clause-tokens
returns-in-Err-form-clause-tokens c =
    let found = next-broken c.args.text.now _ _ c.args.at _ _ c.in-Ok.ensures.utf8 c.range_from.ensures.value c.in-Ok.ensures.value c.if-is_empty.ensures c.in-Err-form.ensures.value c.fault_at.ensures in
    λ reach end. tokens-next reach c.args.text.now c.args.at end _ c.utf8.text c.requires found

pub returns-in-Ok-form-clause-given : goal.returns-in-Ok-form-clause-given
returns-in-Ok-form-clause-given c =
    let found = next-token c.args.text.now _ _ _ c.args.at c.in-Ok-form.kind c.in-Ok.ensures.utf8 c.in-Ok-form.ensures.utf8 c.range_from.ensures.value c.in-Ok.ensures.value c.if-is_empty.ensures c.in-Ok-form.ensures.value in
    record { at = c.args.at; place = c.requires; found = found }
