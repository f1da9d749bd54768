use Rattle.tp_parse.specs.Ops.{table_of}
use Rattle.tp_clauses.proofs.Loading.Text.{named-grows}
use Rattle.tp_clauses.proofs.Loading.ReadTerm.{reads_below, token_ahead, read_steps, read_refused}
use Rattle.tp_clauses.proofs.load.read_next.Goals as goal

pub take_read-requires-clause-below : goal.take_read-requires-clause-below
take_read-requires-clause-below c =
    let told = rw c.in-Ok-Some.field-0-is at c.in-Ok-Some.ensures.read in
    reads_below (table_of c.args.parts.now.ops) c.args.text.now c.args.at c.read_clause.new.atoms c.in-Ok-Some.read told.0 told.1 told.2

pub take_read-requires-clause-known : goal.take_read-requires-clause-known
take_read-requires-clause-known c = named-grows c.args.atoms.now c.read_clause.new.atoms c.in-Ok-Some.ensures.grows c.args.parts.now.store.cells c.requires.known

pub returns-in-Ok-clause-read : goal.returns-in-Ok-clause-read
returns-in-Ok-clause-read c =
    let told = rw c.in-Ok-Some.field-0-is at c.in-Ok-Some.ensures.read in
    read_steps c.read_clause.new.atoms c.args.parts.now c.take_read.new.parts c.args.text.now c.args.at c.args.number c.in-Ok-Some.read told.0 told.1 told.2 c.utf8.text c.requires.place c.in-Ok.ensures

pub returns-in-Err-clause-read : goal.returns-in-Err-clause-read
returns-in-Err-clause-read c =
    let told = rw c.in-Ok-Some.field-0-is at c.in-Ok-Some.ensures.read in
    read_refused c.read_clause.new.atoms c.args.parts.now c.take_read.new.parts c.args.text.now c.args.at c.args.number c.in-Ok-Some.read told.0 told.1 told.2 (Unit {0}) c.in-Err.fault c.in-Err.ensures

pub returns-in-Err-clause-memory : goal.returns-in-Err-clause-memory
returns-in-Err-clause-memory c e =
    let told = rw c.in-Ok-Some.field-0-is at c.in-Ok-Some.ensures.read in
    token_ahead (table_of c.args.parts.now.ops) c.args.text.now c.args.at told.0 c.utf8.text c.requires.place told.1
