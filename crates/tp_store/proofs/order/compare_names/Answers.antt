use Rattle.std.proofs.Common.{ap, sym, ◌∙◌}
use Rattle.std.specs.Ordering.{nat_cmp}
use Rattle.std.specs.Cmp.Lexicographic.{slice_cmp}
use Rattle.std.specs.Prelude.{encode_utf8_all}
use Rattle.tp_terms.specs.Shown.{name_at}
use Rattle.tp_meaning.specs.Order.{name_cmp}
use Rattle.tp_store.proofs.Comparison.Texts.{cmp-same, cmp-encode_utf8_all}
use Rattle.tp_store.proofs.order.compare_names.Goals as goal

pub returns-then-left-right : goal.returns-then-left-right
returns-then-left-right c =
    let names = c.args.atoms.now in
    sym (ap (λ i. name_cmp (name_at names c.args.left.at) (name_at names i)) (sym c.if-left-right.true) ∙ cmp-same (name_at names c.args.left.at))

pub returns : goal.returns
returns c =
    let names = c.args.atoms.now in
    c.cmp.ensures ∙ ap (λ l. slice_cmp nat_cmp l c.name-2.result.now) c.name.ensures.bytes ∙ ap (slice_cmp nat_cmp (encode_utf8_all (name_at names c.args.left.at))) c.name-2.ensures.bytes
    ∙ cmp-encode_utf8_all (name_at names c.args.left.at) (name_at names c.args.right.at)
