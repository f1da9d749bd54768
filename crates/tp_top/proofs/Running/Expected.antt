-- What the parts of a run answer is what is expected.
use Rattle.std.proofs.Common.{◌≡◌, ℕ, ◌+◌, ◌<◌, ◌≤◌, ◌++◌, List, [], ◌∷◌, length, map, Option, Some, None, is_some, nat_eq, Bool, true, false, true≢false, cond, refl, ap, sym, ◌∙◌, subst, arith, codes, encode_utf8, encode_utf8_all, length-append, Result, Ok, Err, IfErr, IfOk, OnOk, IsTrue}
use Rattle.std.proofs.lemmas.Bool.{le-ltb, lt-ltb}
use Rattle.std.proofs.lemmas.Str.{encodes-append, len_utf8_bounds, length-encode}
use Rattle.std.specs.Prelude.{nat_lt, decimal}
use Rattle.tp_terms.specs.declared.text.Named.{Named}
use Rattle.tp_terms.specs.Term.{Name, Term}
use Rattle.tp_terms.specs.Names.{Grows}
use Rattle.tp_terms.specs.Shown.{AreNamed}
use Rattle.tp_meaning.specs.Body.{body}
use Rattle.tp_meaning.specs.Machine.{State, closed}
use Rattle.tp_meaning.specs.Search.{Outcome, End, Fails, Stopped, Raised, Budget, try}
use Rattle.tp_meaning.specs.Step.{search, searched}
use Rattle.tp_meaning.specs.World.{World}
use Rattle.tp_parse.specs.Ops.{table_of}
use Rattle.tp_parse.specs.Table.{Table}
use Rattle.tp_parse.specs.Tells.{Tells, TellsGoal, named_of}
use Rattle.tp_parse.specs.Texts as read
use Rattle.tp_parse.specs.Texts.{Found}
use Rattle.tp_parse.specs.declared.fault.ReadCause.{ReadCause}
use Rattle.tp_parse.specs.declared.fault.ReadFault.{ReadFault}
use Rattle.tp_parse.specs.declared.fault.ReadFault.TheVariants as reading
use Rattle.tp_parse.specs.declared.read.ReadTerm.{ReadTerm}
use Rattle.tp_clauses.specs.Contents.{Contents, base_of}
use Rattle.tp_clauses.specs.Goal as goal
use Rattle.tp_clauses.specs.Goal.{with_body, goal_by}
use Rattle.tp_clauses.specs.Loaded as loaded
use Rattle.tp_clauses.specs.Loaded.{Has}
use Rattle.tp_clauses.specs.Model.{Model, Refusal, model, refusal}
use Rattle.tp_clauses.specs.declared.fault.Cause.{Cause}
use Rattle.tp_clauses.specs.declared.fault.Cause.TheVariants.{Body}
use Rattle.tp_clauses.specs.declared.fault.LoadFault.{LoadFault}
use Rattle.tp_clauses.specs.declared.fault.LoadFault.TheVariants as loading
use Rattle.tp_engine.specs.declared.run.Ended as engine
use Rattle.tp_engine.specs.Ended.{Finds, answers_of, end_of, outcome_of}
use Rattle.tp_engine.specs.Answers as engine-answers
use Rattle.tp_engine.specs.Answers.{IsCutShort, Took, numbered}
use Rattle.std.specs.List.{last_or}
use Rattle.tp_meaning.specs.World.{Event}
use Rattle.tp_machine.specs.Program.{goal_term}
use Rattle.tp_engine.specs.Told.{IsSame, IsStarted, Told, world_in}
use Rattle.tp_report.specs.declared.end.EndLine.{EndLine}
use Rattle.tp_report.specs.declared.end.EndLine.TheVariants as last
use Rattle.tp_top.specs.declared.program.Status.{Status}
use Rattle.tp_top.specs.declared.program.Status.TheVariants as status
use Rattle.tp_top.specs.Report.{Counts, counts_of, answers_text, end_by, last_history, with_last, report}
use Rattle.tp_top.specs.Replies.{counts_in}
use Rattle.tp_outside.specs.Taken.{added}
use Rattle.tp_engine.specs.declared.answers.AnswerFault.{AnswerFault}
use Rattle.tp_engine.specs.declared.answers.AnswerFault.TheVariants as why
use Rattle.tp_outside.specs.Count.{Rose}
use Rattle.tp_report.specs.Report.{line}
use Rattle.tp_report.specs.End.{after_text, counts_text, last_line}
use Rattle.std.specs.Fmt.{signed_decimal}
use Rattle.tp_meters.specs.declared.MeterKind.{MeterKind}
use Rattle.tp_top.specs.Metered.{printed_kinds}
use Rattle.tp_top.specs.Told.{found_in, for_read, model_in, shown_bytes}
use Rattle.tp_top.specs.Written.{Writes, Writing}
use Rattle.tp_top.specs.Told.{report_in, reported_in}
use Rattle.tp_top.specs.Sample.{Source, HeldUnder, SampleOf, events_of, reported, sample_line, sample_report, sample_text, with_line}
use Rattle.tp_top.proofs.Running.Written.{LeavesBy, Printed, TakesBy, histories, last-numbered, later_writes, printed_parts, shown-answers}
use Rattle.tp_top.specs.Expected.{Request, Answer, found, named_in, for_found, for_goal, for_model, for_sample, for_text, usage, too_long, model_refused, goal_refused, cause_word}
use Rattle.tp_machine.proofs.Worlds.Names.{base-later}

-- ---- searches

-- the stamp of a failure isn't printed
report-closed : (ops : Table) (named : List Named) (kinds : List MeterKind) (o : Outcome World Term) → report ops named kinds (closed o) ≡ report ops named kinds o
report-closed ops named kinds o = by o.how
  where
    by : (e : End World Term) → report ops named kinds (closed (record o { how = e })) ≡ report ops named kinds (record o { how = e })
    by (Fails s) = refl
    by Stopped = refl
    by (Raised t z) = refl
    by Budget = refl

reported-closed : (source : Source) (ops : Table) (named : List Named) (kinds : List MeterKind) (clauses : ℕ) (o : Outcome World Term) → reported source ops named kinds clauses (closed o) ≡ reported source ops named kinds clauses o
reported-closed (HeldUnder name) ops named kinds clauses o = report-closed ops named kinds o
reported-closed (SampleOf n) ops named kinds clauses o = by o.how
  where
    by : (e : End World Term) → sample_report ops n clauses (closed (record o { how = e })) ≡ sample_report ops n clauses (record o { how = e })
    by (Fails s) = refl
    by Stopped = refl
    by (Raised t z) = refl
    by Budget = refl

counts-same : (t : Told) (e : engine.Ended) (o : Outcome World Term) → Finds o t e → counts_in e ≡ counts_of o
counts-same t e o f =
    ap (λ n. record { steps = n; found = e.found; failed = e.failed; deadlock = e.deadlock; late = e.late }) f.steps
    ∙ ap (λ n. record { steps = o.steps; found = n; failed = e.failed; deadlock = e.deadlock; late = e.late }) f.found
    ∙ ap (λ n. record { steps = o.steps; found = length o.answers; failed = n; deadlock = e.deadlock; late = e.late }) f.failed
    ∙ ap (λ n. record { steps = o.steps; found = length o.answers; failed = o.failed; deadlock = n; late = e.late }) f.deadlock
    ∙ ap (λ n. record { steps = o.steps; found = length o.answers; failed = o.failed; deadlock = o.deadlock; late = n }) f.late

-- the last line is made of counts and of an end that a run tells
last_is : (ops : Table) (o : Outcome World Term) (t : Told) (e : engine.Ended) → Finds o t e → with_last [] e.steps (end_by ops (counts_in e) (end_of t.seen e.how)) None ≡ with_last [] o.steps (end_by ops (counts_of o) o.how) None
last_is ops o t e f =
    ap (λ c. with_last [] e.steps (end_by ops c (end_of t.seen e.how)) None) (counts-same t e o f)
    ∙ ap (λ h. with_last [] e.steps (end_by ops (counts_of o) h) None) f.how
    ∙ ap (λ n. with_last [] n (end_by ops (counts_of o) o.how) None) f.steps

-- behind the answers of a run, the last line ends its report
pub searched_writes : (kinds : List MeterKind) (old : Told) (o : Outcome World Term) (t : Told) (e : engine.Ended) (f0 f1 f2 : ℕ) (w0 w1 w2 : Option (List ℕ)) (res : Result Status AnswerFault)
    → Finds o t e → IsSame old t → f1 ≡ f0 → w1 ≡ added w0 (shown_bytes kinds (numbered old.seen.named old.seen.ops 0 o.answers))
    → Writes (with_last [] e.steps (end_by (table_of t.seen.ops) (counts_in e) (end_of t.seen e.how)) None) f1 f2 w1 w2 res
    → Writes (report (table_of old.seen.ops) old.seen.named kinds o) f0 f2 w0 w2 res
searched_writes kinds old o t e f0 f1 f2 w0 w1 w2 res finds same f w h =
    let ops = table_of old.seen.ops in
    let end = end_by ops (counts_of o) o.how in
    later_writes (report ops old.seen.named kinds o) (with_last [] o.steps end None) (shown_bytes kinds (numbered old.seen.named old.seen.ops 0 o.answers)) f0 f1 f2 w0 w1 w2 res
    refl (shown-answers kinds old.seen.ops old.seen.named 0 o.answers (last_line end.1 o.steps)) f w
    (subst (λ b. Writes b f1 f2 w1 w2 res)
    (ap (λ x. with_last [] e.steps (end_by (table_of x) (counts_in e) (end_of t.seen e.how)) None) same.ops ∙ last_is ops o t e finds) h)

-- the bytes of a report: those of its answers, and its last line
pub report_bytes : (kinds : List MeterKind) (old : Told) (o : Outcome World Term) → (report (table_of old.seen.ops) old.seen.named kinds o).1 ≡ shown_bytes kinds (numbered old.seen.named old.seen.ops 0 o.answers) ++ encode_utf8_all (last_line (end_by (table_of old.seen.ops) (counts_of o) o.how).1 o.steps)
report_bytes kinds old o = shown-answers kinds old.seen.ops old.seen.named 0 o.answers (last_line (end_by (table_of old.seen.ops) (counts_of o) o.how).1 o.steps)

-- the tally of a run holds the number of events of its last answer
pub tallied : {A : Type 0} (events : A → ℕ) (answers : List engine-answers.Answer) (before now : A)
    → Took (λ old (a : engine-answers.Answer) new. events new ≡ length a.world.history) before answers now → events before ≡ 0
    → events now ≡ events_of (last_or None (histories answers))
tallied {A} events answers before now took none = go None answers before now none took
  where
    go : (last : Option (List Event)) (answers : List engine-answers.Answer) (before now : A) → events before ≡ events_of last
        → Took (λ old (a : engine-answers.Answer) new. events new ≡ length a.world.history) before answers now → events now ≡ events_of (last_or last (histories answers))
    go last [] before now is took = ap events took ∙ is
    go last (a ∷ answers) before now is (at, h, rest) = go (Some a.world.history) answers at now h rest

-- the counts of a search, and its last line
pub counted_is : (n clauses events : ℕ) (old : Told) (o : Outcome World Term) (t : Told) (e : engine.Ended)
    → Finds o t e → IsSame old t → clauses ≡ length old.base → events ≡ events_of (last_history o.answers)
    → with_line (sample_line n clauses e.found events) e.steps (end_by (table_of t.seen.ops) (counts_in e) (end_of t.seen e.how))
    ≡ sample_report (table_of old.seen.ops) n (length old.base) o
counted_is n clauses events old o t e f same size count =
    let end = end_by (table_of t.seen.ops) (counts_in e) (end_of t.seen e.how) in
    ap (λ k. with_line (sample_line n k e.found events) e.steps end) size
    ∙ ap (λ k. with_line (sample_line n (length old.base) k events) e.steps end) f.found
    ∙ ap (λ k. with_line (sample_line n (length old.base) (length o.answers) k) e.steps end) count
    ∙ ap (λ x. with_line (line_by o n old) e.steps (end_by (table_of x) (counts_in e) (end_of t.seen e.how))) same.ops
    ∙ ap (λ c. with_line (line_by o n old) e.steps (end_by (table_of old.seen.ops) c (end_of t.seen e.how))) (counts-same t e o f)
    ∙ ap (λ h. with_line (line_by o n old) e.steps (end_by (table_of old.seen.ops) (counts_of o) h)) f.how
    ∙ ap (λ k. with_line (line_by o n old) k (end_by (table_of old.seen.ops) (counts_of o) o.how)) f.steps
  where
    line_by : Outcome World Term → ℕ → Told → List ℕ
    line_by o n old = sample_line n (length old.base) (length o.answers) (events_of (last_history o.answers))

-- ---- no text is empty

line_some : (words : List ℕ) → 0 < length (line words)
line_some words = omega (arith, length-append words (codes "\n"))

encoded_some : (words : List ℕ) → 0 < length (encode_utf8_all (line words))
encoded_some words =
    let all = ap length (encodes-append words (codes "\n")) ∙ length-append (encode_utf8_all words) (encode_utf8_all (codes "\n")) in
    omega (arith, all, newline_some)
  where
    newline_some : 0 < length (encode_utf8_all (codes "\n"))
    newline_some =
        let one = (len_utf8_bounds 10).0 in
        let size = length-encode 10 in
        let all : length (encode_utf8_all (codes "\n")) ≡ length (encode_utf8 10) + length (encode_utf8_all []) = length-append (encode_utf8 10) (encode_utf8_all []) in
        omega (arith, one, size, all)

pub last_some : (end : EndLine) (steps : ℕ) → 0 < length (encode_utf8_all (last_line end steps))
last_some last.Stopped steps = encoded_some (codes "stopped" ++ after_text steps)
last_some (last.NoMore failed deadlock late) steps = encoded_some (codes "no more" ++ (after_text steps ++ counts_text failed deadlock late))
last_some (last.No failed deadlock late) steps = encoded_some (codes "no" ++ (after_text steps ++ counts_text failed deadlock late))
last_some (last.Raised term clock) steps = encoded_some (codes "error " ++ (term ++ (codes " at " ++ (signed_decimal clock ++ after_text steps))))
last_some last.Budget steps = encoded_some (codes "budget" ++ after_text steps)

report_some : (ops : Table) (named : List Named) (kinds : List MeterKind) (o : Outcome World Term) → 0 < length (report ops named kinds o).1
report_some ops named kinds o =
    let front = answers_text ops named kinds 0 o.answers in
    let end = last_line (end_by ops (counts_of o) o.how).1 o.steps in
    let all = ap length (encodes-append front end) ∙ length-append (encode_utf8_all front) (encode_utf8_all end) in
    omega (arith, all, last_some (end_by ops (counts_of o) o.how).1 o.steps)

-- a line with the last line behind it
with_line_some : (bytes : List ℕ) (steps : ℕ) (end : Status × EndLine) → 0 < length (with_line bytes steps end).1
with_line_some bytes steps end = omega (arith, length-append bytes (encode_utf8_all (last_line end.1 steps)), last_some end.1 steps)

pub counts_some : (ops : Table) (n clauses : ℕ) (o : Outcome World Term) → 0 < length (sample_report ops n clauses o).1
counts_some ops n clauses o = with_line_some (sample_line n clauses (length o.answers) (events_of (last_history o.answers))) o.steps (end_by ops (counts_of o) o.how)

reported_some : (source : Source) (ops : Table) (named : List Named) (kinds : List MeterKind) (clauses : ℕ) (o : Outcome World Term) → 0 < length (reported source ops named kinds clauses o).1
reported_some (HeldUnder name) ops named kinds clauses o = report_some ops named kinds o
reported_some (SampleOf n) ops named kinds clauses o = counts_some ops n clauses o

-- what the search of an engine has written, by how its answers were taken
pub search_printed : {A N M T : Type 0} (res : Result T AnswerFault) (before now : A) (sink : A → N) (meters : A → M) (see : A → Writing) (t : Told) (steps wanted : ℕ)
    → OnOk res (Took (TakesBy sink meters see) before (answers_of t steps wanted) now)
    → IfErr res (λ fault. IsCutShort (TakesBy sink meters see) (LeavesBy sink meters see) (answers_of t steps wanted) fault before now)
    → (res ≡ Err why.Write → Rose (see before).faults (see now).faults)
    → (sink now ≡ sink before) × (meters now ≡ meters before)
    × Printed res (see before) (answers_of t steps wanted) (report_in (printed_kinds (see before).metered (see before).kinds) t steps wanted) (see now)
search_printed res before now sink meters see t steps wanted =
    let o = outcome_of t steps wanted in
    let kinds = printed_kinds (see before).metered (see before).kinds in
    let last = (end_by (table_of t.seen.ops) (counts_of o) o.how).1 in
    printed_parts res before now sink meters see (answers_of t steps wanted) (report_in kinds t steps wanted) (encode_utf8_all (last_line last o.steps))
    (report_bytes kinds t o) (last_some last o.steps)

goal_line_some : (x : goal.Refusal) → 0 < length (goal_refused x).1
goal_line_some x = line_some (codes "goal refused: byte " ++ (decimal x.0 ++ (codes " cause " ++ cause_word x.1)))

model_line_some : (x : Refusal) → 0 < length (model_refused x).1
model_line_some x =
    line_some (codes "model refused: clause " ++ (decimal x.clause ++ (codes " byte " ++ (decimal x.byte ++ (codes " cause " ++ cause_word x.cause)))))

found_some : (kinds : List MeterKind) (m : Model) (x : Result Found goal.Refusal) (r : Request) → 0 < length (for_found kinds m x r).1
found_some kinds m (Err refused) r = goal_line_some refused
found_some kinds m (Ok f) r = reported_some r.source m.table (named_in f.named) (printed_kinds r.meters kinds) (length m.clauses) (found m f r.steps r.answers)

pub goal_some : (kinds : List MeterKind) (m : Model) (r : Request) → 0 < length (for_goal kinds m r).1
goal_some kinds m r = found_some kinds m (goal.goal_of m.table r.goal) r

pub read_some : (kinds : List MeterKind) (m : Model) (f : Found) (r : Request) → 0 < length (for_read kinds m f r).1
read_some kinds m f r = found_some kinds m (with_body f (body f.term)) r

pub model_some : (kinds : List MeterKind) (x : Result Model Refusal) (r : Request) → 0 < length (for_model kinds x r).1
model_some kinds (Err refused) r = model_line_some refused
model_some kinds (Ok m) r = goal_some kinds m r

pub usage_some : 0 < length usage.1
usage_some = line_some (codes "usage: tprolog MODEL GOAL [options]")

pub sample_some : (kinds : List MeterKind) (n : ℕ) (r : Request) → 0 < length (for_sample kinds n r).1
unfolding for_sample
sample_some kinds n r = model_some kinds (model (sample_text n)) r

pub text_some : (kinds : List MeterKind) (text : List ℕ) (r : Request) → 0 < length (for_text kinds text r).1
unfolding for_text
text_some kinds text r = by (nat_lt 16777216 (length text))
  where
    by : (b : Bool) → let a : Answer = cond b too_long (for_model kinds (model text) r) in 0 < length a.1
    by true = line_some (codes "model refused: more than 16777216 bytes")
    by false = model_some kinds (model text) r

-- ---- goals

-- the search of an engine is that of its goal
outcome_is : (names : List Name) (c : Contents) (g : ReadTerm) (t : Told) (steps answers : ℕ) → IsStarted names c g t → outcome_of t steps answers ≡ closed (found (model_in names c) (found_in names g) steps answers)
unfolding found search
outcome_is names c g t steps answers s =
    ap (λ b. closed (try (searched b) (world_in t.seen) steps answers)) s.base
    ∙ ap (λ (m : State World). closed (try (searched (base_of names c)) m.world steps answers)) s.state

named-back : (xs : List Named) → named_in (map named_of xs) ≡ xs
named-back [] = refl
named-back (x ∷ xs) = ap (λ more. x ∷ more) (named-back xs)

-- the answer to a goal that has a body
pub read_answered : (kinds : List MeterKind) (names : List Name) (c : Contents) (g : ReadTerm) (t : Told) (r : Request) → IsStarted names c g t → IsTrue (is_some (body (goal_term names g))) → reported_in r.source (printed_kinds r.meters kinds) t r.steps r.answers ≡ for_read kinds (model_in names c) (found_in names g) r
read_answered kinds names c g t r s has =
    let printed = printed_kinds r.meters kinds in
    ap (λ ops. reported r.source (table_of ops) t.seen.named printed (length t.base) (outcome_of t r.steps r.answers)) s.ops
    ∙ ap (λ vs. reported r.source (table_of c.ops) vs printed (length t.base) (outcome_of t r.steps r.answers)) (s.named ∙ sym (named-back g.named))
    ∙ ap (λ b. reported r.source (table_of c.ops) (named_in (map named_of g.named)) printed (length b) (outcome_of t r.steps r.answers)) s.base
    ∙ ap (reported r.source (table_of c.ops) (named_in (map named_of g.named)) printed (length (base_of names c))) (outcome_is names c g t r.steps r.answers s)
    ∙ reported-closed r.source (table_of c.ops) (named_in (map named_of g.named)) printed (length (base_of names c)) (found (model_in names c) (found_in names g) r.steps r.answers)
    ∙ by (body (goal_term names g)) has
  where
    by : (b : Option Term) → IsTrue (is_some b) → for_found kinds (model_in names c) (Ok (found_in names g)) r ≡ for_found kinds (model_in names c) (with_body (found_in names g) b) r
    by None h = absurd (true≢false (sym h))
    by (Some b) h = refl

-- the answer to a goal that has none
pub no_body : (kinds : List MeterKind) (names : List Name) (c : Contents) (g : ReadTerm) (r : Request) → body (goal_term names g) ≡ None → goal_refused (g.from, Body) ≡ for_read kinds (model_in names c) (found_in names g) r
no_body kinds names c g r none = ap (λ b. for_found kinds (model_in names c) (with_body (found_in names g) b) r) (sym none)

found_same : (names : List Name) (t : ReadTerm) (f : Found) → Tells names t f → found_in names t ≡ f
found_same names t f h =
    ap (λ x. record { term = x; named = map named_of t.named; vars = t.vars; from = t.from; to = t.to }) h.term
    ∙ ap (λ x. record { term = f.term; named = x; vars = t.vars; from = t.from; to = t.to }) h.named
    ∙ ap (λ x. record { term = f.term; named = f.named; vars = x; from = t.from; to = t.to }) h.vars
    ∙ ap (λ x. record { term = f.term; named = f.named; vars = f.vars; from = x; to = t.to }) h.from
    ∙ ap (λ x. record { term = f.term; named = f.named; vars = f.vars; from = f.from; to = x }) h.to

model_later : (old new : List Name) (c : Contents) → Grows old new → AreNamed (length old) c.cells → model_in new c ≡ model_in old c
model_later old new c grows named = ap (λ b. record { clauses = b; table = table_of c.ops }) (base-later old new grows c named)

-- the answer to a goal text that has a reading; its names are behind those of the base
pub goal_answered : (kinds : List MeterKind) (old new : List Name) (c : Contents) (t : ReadTerm) (f : Found) (r : Request) → Grows old new → AreNamed (length old) c.cells → read.goal_of (table_of c.ops) r.goal ≡ Ok f → Tells new t f → for_read kinds (model_in new c) (found_in new t) r ≡ for_goal kinds (model_in old c) r
unfolding goal.goal_of
goal_answered kinds old new c t f r grows named is h =
    ap (λ m. for_read kinds m (found_in new t) r) (model_later old new c grows named)
    ∙ ap (λ g. for_read kinds (model_in old c) g r) (found_same new t f h)
    ∙ ap (λ x. for_found kinds (model_in old c) (goal_by x) r) (sym is)

-- the answer to one that has none
pub goal_stopped : (kinds : List MeterKind) (names : List Name) (c : Contents) (stop : read.Refusal) (r : Request) → read.goal_of (table_of c.ops) r.goal ≡ Err stop → for_found kinds (model_in names c) (goal_by (Err stop)) r ≡ for_goal kinds (model_in names c) r
unfolding goal.goal_of
goal_stopped kinds names c stop r is = ap (λ x. for_found kinds (model_in names c) (goal_by x) r) (sym is)

-- ---- models

model_same : (names : List Name) (c : Contents) (m : Model) → Has names c m → model_in names c ≡ m
model_same names c m h =
    ap (λ b. record { clauses = b; table = table_of c.ops }) h.clauses ∙ ap (λ t. record { clauses = m.clauses; table = t }) h.table

-- a text that isn't too long
pub text_answered : (kinds : List MeterKind) (text : List ℕ) (r : Request) (x : Result Model Refusal) → length text ≤ 16777216 → model text ≡ x → for_model kinds x r ≡ for_text kinds text r
unfolding for_text
text_answered kinds text r x short read =
    ap (λ m. for_model kinds m r) (sym read)
    ∙ ap (λ b. cond b too_long (for_model kinds (model text) r)) (sym (le-ltb 16777216 (length text) short))

-- the answer over the base that was loaded
pub base_answered : (kinds : List MeterKind) (text : List ℕ) (r : Request) (names : List Name) (c : Contents) (m : Model) → model text ≡ Ok m → Has names c m → for_goal kinds (model_in names c) r ≡ for_model kinds (model text) r
base_answered kinds text r names c m is has = ap (λ x. for_goal kinds x r) (model_same names c m has) ∙ ap (λ x. for_model kinds x r) (sym is)

-- the answer where there is none
pub base_refused : (kinds : List MeterKind) (text : List ℕ) (r : Request) (refused : Refusal) → model text ≡ Err refused → model_refused refused ≡ for_model kinds (model text) r
base_refused kinds text r refused is = ap (λ x. for_model kinds x r) (sym is)

-- the answer for the model of a sample
pub sample_answered : (kinds : List MeterKind) (text : List ℕ) (n : ℕ) (r : Request) → text ≡ sample_text n → for_model kinds (model text) r ≡ for_sample kinds n r
unfolding for_sample
sample_answered kinds text n r is = ap (λ t. for_model kinds (model t) r) is

pub long_answered : (kinds : List MeterKind) (text : List ℕ) (r : Request) → 16777216 < length text → for_text kinds text r ≡ too_long
unfolding for_text
long_answered kinds text r long = ap (λ b. cond b too_long (for_model kinds (model text) r)) (lt-ltb 16777216 (length text) long)

-- ---- the status of a text's answer is that of a search or of a refusal

-- a status that an answer for a text may have
abbrev pub IsOfText : Status → Type 0
IsOfText status.Usage = ⊥
IsOfText status.Read = ⊥
IsOfText status.Write = ⊥
IsOfText status.Memory = ⊥
IsOfText _ = Unit {0}

end_of_text : (ops : Table) (c : Counts) (how : End World Term) → IsOfText (end_by ops c how).0
end_of_text ops c (Fails s) = by (nat_eq c.found 0)
  where
    by : (b : Bool) → let e : Status × EndLine = cond b (status.No, last.No c.failed c.deadlock c.late) (status.Found, last.NoMore c.failed c.deadlock c.late) in IsOfText e.0
    by true = tt
    by false = tt
end_of_text ops c Stopped = tt
end_of_text ops c (Raised t z) = tt
end_of_text ops c Budget = tt

found_of_text : (kinds : List MeterKind) (m : Model) (x : Result Found goal.Refusal) (r : Request) → IsOfText (for_found kinds m x r).0
found_of_text kinds m (Err refused) r = tt
found_of_text kinds m (Ok f) r = by r.source
  where
    o : Outcome World Term
    o = found m f r.steps r.answers

    by : (source : Source) → IsOfText (reported source m.table (named_in f.named) (printed_kinds r.meters kinds) (length m.clauses) o).0
    by (HeldUnder name) = end_of_text m.table (counts_of o) o.how
    by (SampleOf n) = end_of_text m.table (counts_of o) o.how

model_of_text : (kinds : List MeterKind) (x : Result Model Refusal) (r : Request) → IsOfText (for_model kinds x r).0
unfolding goal.goal_of
model_of_text kinds (Err refused) r = tt
model_of_text kinds (Ok m) r = found_of_text kinds m (goal.goal_of m.table r.goal) r

pub of_sample : (kinds : List MeterKind) (n : ℕ) (r : Request) → IsOfText (for_sample kinds n r).0
unfolding for_sample
of_sample kinds n r = model_of_text kinds (model (sample_text n)) r

pub of_text : (kinds : List MeterKind) (text : List ℕ) (r : Request) → IsOfText (for_text kinds text r).0
unfolding for_text
of_text kinds text r = by (nat_lt 16777216 (length text))
  where
    by : (b : Bool) → let a : Answer = cond b too_long (for_model kinds (model text) r) in IsOfText a.0
    by true = tt
    by false = model_of_text kinds (model text) r

pub if_ok : {A E : Type 0} (r : Result A E) (P Q : A → Type 0) → ((a : A) → P a → Q a) → IfOk r P → IfOk r Q
if_ok (Ok a) P Q f h = f a h
if_ok (Err e) P Q f h = h

-- ---- refusals that are told

pub told_stop : (names : List Name) (fault : ReadFault) (byte : ℕ) (cause : ReadCause) (r : Result Found read.Refusal) → fault ≡ reading.Refused byte cause → TellsGoal names (Err fault) r → r ≡ Err (byte, cause)
told_stop names fault byte cause r is told = subst (λ (x : ReadFault). TellsGoal names (Err x) r) is told

pub told_refusal : (names : List Name) (fault : LoadFault) (clause byte : ℕ) (cause : Cause) (r : Result Model Refusal) → fault ≡ loading.Refused clause byte cause → loaded.Tells names (Err fault) r → r ≡ Err (refusal clause byte cause)
told_refusal names fault clause byte cause r is told = subst (λ (x : LoadFault). loaded.Tells names (Err x) r) is told

-- refusals by equal parts
pub same_goal_line : (b byte : ℕ) (x cause : Cause) → b ≡ byte → x ≡ cause → goal_refused (b, x) ≡ goal_refused (byte, cause)
same_goal_line b byte x cause e f = ap (λ n. goal_refused (n, x)) e ∙ ap (λ y. goal_refused (byte, y)) f

pub same_model_line : (n clause b byte : ℕ) (x cause : Cause) → n ≡ clause → b ≡ byte → x ≡ cause → model_refused (refusal n b x) ≡ model_refused (refusal clause byte cause)
same_model_line n clause b byte x cause e f g =
    ap (λ m. model_refused (refusal m b x)) e ∙ ap (λ m. model_refused (refusal clause m x)) f ∙ ap (λ y. model_refused (refusal clause byte y)) g
