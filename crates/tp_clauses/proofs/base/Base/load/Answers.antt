use Rattle.std.proofs.Common.{Ok, sym, subst, ◌∙◌}
use Rattle.std.specs.List.{AllByRecursion}
use Rattle.tp_meaning.specs.Valid.{ClauseFits}
use Rattle.tp_clauses.proofs.Loading.Whole.{base_told, bodies_told, clauses_fit, fault_told, lists_memory, memory_told, model_bytes}
use Rattle.tp_clauses.specs.declared.parts.Parts.{Parts}
use Rattle.tp_clauses.specs.declared.base.Base.{Base}
use Rattle.tp_clauses.specs.Contents.{Contents, IsBase, base_of}
use Rattle.tp_clauses.specs.Loaded.{HasBody, Tells}
use Rattle.tp_clauses.specs.Model.{model}
use Rattle.tp_clauses.specs.Parts.{contents_of}
use Rattle.tp_clauses.proofs.base.Base.load.Goals as goal

pub returns-in-Ok-with_lists-clause-model : goal.returns-in-Ok-with_lists-clause-model
returns-in-Ok-with_lists-clause-model c =
    let told = base_told c.load_text.new.atoms c.args.text.now c.in-Ok.text.now c.in-Ok-load_text.parts c.in-Ok.ensures.cases.0 c.in-Ok.ensures.cases.1 c.in-Ok-load_text.ensures.model in
    subst (λ (b : Contents). Tells c.load_text.new.atoms (Ok b) (model c.args.text.now)) (sym c.in-Ok-with_lists.ensures) (told.0, told.1.0, told.1.1)

pub returns-in-Err-load_text-clause-model : goal.returns-in-Err-load_text-clause-model
returns-in-Err-load_text-clause-model c =
    fault_told c.load_text.new.atoms c.args.text.now c.in-Ok.text.now c.in-Err-load_text.fault c.in-Ok.ensures.cases.0 c.in-Ok.ensures.cases.1 c.in-Err-load_text.ensures.model

pub returns-in-Err-clause-model : goal.returns-in-Err-clause-model
returns-in-Err-clause-model c = model_bytes c.args.text.now c.valid_up_to.result c.in-Err.ensures.cases.0 (c.valid_up_to.ensures ∙ c.in-Err.ensures.valid_len)

pub returns-in-Err-load_text-clause-memory : goal.returns-in-Err-load_text-clause-memory
returns-in-Err-load_text-clause-memory c =
    memory_told Parts Base c.args.text.now c.in-Ok.text.now c.in-Err-load_text.fault c.in-Ok.ensures.cases.0 c.in-Ok.ensures.cases.1 c.in-Err-load_text.ensures.memory

pub returns-in-Err-with_lists-clause-memory : goal.returns-in-Err-with_lists-clause-memory
returns-in-Err-with_lists-clause-memory c e =
    lists_memory c.args.text.now c.in-Ok.text.now c.in-Ok.ensures.cases.0 c.in-Ok.ensures.cases.1 c.in-Ok-load_text.ensures.token

pub returns-in-Ok-with_lists-clause-base : goal.returns-in-Ok-with_lists-clause-base
returns-in-Ok-with_lists-clause-base c = subst IsBase (sym c.in-Ok-with_lists.ensures) c.in-Ok-load_text.ensures.parts.base

pub returns-in-Ok-with_lists-clause-fit : goal.returns-in-Ok-with_lists-clause-fit
returns-in-Ok-with_lists-clause-fit c names =
    subst (λ (b : Contents). AllByRecursion ClauseFits (base_of names b)) (sym c.in-Ok-with_lists.ensures)
    (clauses_fit names (contents_of c.in-Ok-load_text.parts) c.in-Ok-load_text.ensures.parts.base)

pub returns-in-Ok-with_lists-clause-bodies : goal.returns-in-Ok-with_lists-clause-bodies
returns-in-Ok-with_lists-clause-bodies c =
    let told = base_told c.load_text.new.atoms c.args.text.now c.in-Ok.text.now c.in-Ok-load_text.parts c.in-Ok.ensures.cases.0 c.in-Ok.ensures.cases.1 c.in-Ok-load_text.ensures.model in
    subst (λ (b : Contents). AllByRecursion HasBody (base_of c.load_text.new.atoms b)) (sym c.in-Ok-with_lists.ensures)
    (bodies_told c.load_text.new.atoms c.args.text.now (contents_of c.in-Ok-load_text.parts) told.0 told.1.0 told.1.1)
