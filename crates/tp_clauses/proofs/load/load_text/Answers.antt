use Rattle.std.proofs.Common.{sym, subst, refl, arith, ◌<◌, ℕ, Option, Err}
use Rattle.std.proofs.lemmas.Str.{IsCharBoundary-start}
use Rattle.tp_terms.proofs.Naming.Tables.{Grows-same, Grows-trans}
use Rattle.tp_clauses.proofs.Loading.Text.{most, loading_start, loading_more, loading_none, loading_err, ended_ok, ended_err, begun_err, begun_memory, loading_memory, fault_same}
use Rattle.tp_clauses.specs.declared.parts.Parts.{Parts}
use Rattle.tp_clauses.specs.declared.fault.LoadFault.TheVariants.{NoMemory}
use Rattle.tp_clauses.proofs.load.load_text.Goals as goal

pub terms-init : goal.terms-init
terms-init c = record { loading = loading_start c.args.atoms.now c.args.text.now c.in-Ok.parts c.in-Ok.ensures.told (IsCharBoundary-start c.args.text.now c.utf8.text); grows = Grows-same c.args.atoms.now }

pub terms-preserved : goal.terms-preserved
terms-preserved c = record {
  loading = loading_more c.terms.atoms c.read_next.new.atoms c.args.text.now c.terms.at c.terms.before c.terms.parts c.terms.invariant.loading c.in-Ok-Some.ensures.grows (subst (λ n. c.terms.before < n) (sym most) c.terms-test.true) c.read_next.new.parts c.in-Ok-Some.to (rw c.in-Ok-Some.field-0-is at c.in-Ok-Some.ensures.read);
  grows = Grows-trans c.args.atoms.now c.terms.atoms c.read_next.new.atoms c.terms.invariant.grows c.in-Ok-Some.ensures.grows;
}

pub returns-in-Ok-None-clause-model : goal.returns-in-Ok-None-clause-model
returns-in-Ok-None-clause-model c = loading_none c.terms.atoms c.read_next.new.atoms c.args.text.now c.terms.at c.terms.before c.terms.parts c.terms.invariant.loading c.in-Ok-None.ensures.grows (subst (λ n. c.terms.before < n) (sym most) c.terms-test.true) c.read_next.new.parts (rw c.in-Ok-None.field-0-is at c.in-Ok-None.ensures.read)

pub returns-in-Ok-None-clause-grows : goal.returns-in-Ok-None-clause-grows
returns-in-Ok-None-clause-grows c = Grows-trans c.args.atoms.now c.terms.atoms c.read_next.new.atoms c.terms.invariant.grows c.in-Ok-None.ensures.grows

pub returns-in-Err-read_next-clause-model : goal.returns-in-Err-read_next-clause-model
returns-in-Err-read_next-clause-model c = loading_err c.terms.atoms c.read_next.new.atoms c.args.text.now c.terms.at c.terms.before c.terms.parts c.terms.invariant.loading c.in-Err-read_next.ensures.grows (subst (λ n. c.terms.before < n) (sym most) c.terms-test.true) c.read_next.new.parts c.in-Err-read_next.fault (Err c.in-Err-read_next.fault) refl c.in-Err-read_next.ensures.read

pub returns-in-Err-read_next-clause-grows : goal.returns-in-Err-read_next-clause-grows
returns-in-Err-read_next-clause-grows c = Grows-trans c.args.atoms.now c.terms.atoms c.read_next.new.atoms c.terms.invariant.grows c.in-Err-read_next.ensures.grows

pub returns-in-Ok-end_of-clause-model : goal.returns-in-Ok-end_of-clause-model
returns-in-Ok-end_of-clause-model c = ended_ok c.terms.atoms c.args.text.now c.terms.at c.terms.before c.terms.parts c.terms.invariant.loading (omega (arith, c.terms-test.false, c.terms.auto.before-end, most)) c.in-Ok-end_of.ensures

pub returns-in-Err-end_of-clause-model : goal.returns-in-Err-end_of-clause-model
returns-in-Err-end_of-clause-model c = ended_err c.terms.atoms c.args.text.now c.terms.at c.terms.before c.terms.parts c.terms.invariant.loading (omega (arith, c.terms-test.false, c.terms.auto.before-end, most)) (Unit {0}) 1000001 c.in-Err-end_of.fault (Err c.in-Err-end_of.fault) (omega (arith, most)) refl c.in-Err-end_of.ensures

pub returns-in-Err-clause-model : goal.returns-in-Err-clause-model
returns-in-Err-clause-model c = begun_err c.args.atoms.now c.args.text.now c.in-Err.fault (Err c.in-Err.fault) c.utf8.text (IsCharBoundary-start c.args.text.now c.utf8.text) refl c.in-Err.ensures.told

pub returns-in-Err-clause-memory : goal.returns-in-Err-clause-memory
returns-in-Err-clause-memory c e = begun_memory c.args.text.now c.in-Err.fault c.in-Err.ensures.told e

pub returns-in-Err-read_next-clause-memory : goal.returns-in-Err-read_next-clause-memory
returns-in-Err-read_next-clause-memory c e =
    loading_memory c.terms.atoms c.args.text.now c.terms.at c.terms.before c.terms.parts c.terms.invariant.loading (subst (λ n. c.terms.before < n) (sym most) c.terms-test.true)
    (c.in-Err-read_next.ensures.memory (fault_same Parts (Option ℕ) c.in-Err-read_next.fault NoMemory e))
