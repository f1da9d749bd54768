use Rattle.tp_terms.specs.Names.{Grows}
use Rattle.tp_clauses.proofs.Loading.Text.{IsLoading}
use Rattle.tp_clauses.proofs.load.load_text.Given as goal

abbrev pub invariant-terms : goal.invariant-terms
invariant-terms l = record {
  loading : IsLoading l.atoms l.text l.at l.before l.parts;
  grows : Grows l.fn.atoms l.atoms;
}
