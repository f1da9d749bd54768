-- Terms, names and events in their pieces.
use Rattle.std.proofs.Common.{◌≡◌, ℕ, List, [], ◌++◌, codes, decimal, ℤ, None, refl, sym, ap, ◌∙◌, append_assoc, append-nil}
use Rattle.std.specs.Fmt.{signed_decimal}
use Rattle.tp_terms.specs.declared.Limit.{Limit}
use Rattle.tp_terms.specs.declared.world.EventKind.{EventKind}
use Rattle.tp_terms.specs.Term.{Name}
use Rattle.tp_terms.specs.Binds.{bound_in}
use Rattle.tp_write.specs.Names.{name_text}
use Rattle.tp_write.specs.Text.{written, text}
use Rattle.tp_report.specs.Report.{line, head_text, limit_text, number_line, clock_line}
use Rattle.tp_report.specs.Seen.{Seen, term_seen, value_by}
use Rattle.tp_report.specs.Lines.{value_text, words_text}

-- a variable that is unbound, as it is written
pub unbound-pieces : (s : Seen) (v : ℕ) → None ≡ bound_in s.bindings v → codes "_" ++ (decimal v ++ []) ≡ value_text s v
unfolding written text
unbound-pieces s v e =
    ap (λ t. codes "_" ++ t) (append-nil (decimal v))
    ∙ ap (λ b. text s.ops 699 (value_by (term_seen s) v b)) e

-- ---- events

-- the words of a kind of event that is known
pub words_as : (s : Seen) (k known : EventKind) → k ≡ known → words_text s known ≡ words_text s k
words_as s k known e = ap (words_text s) (sym e)

-- a process that was made
pub new-pieces : (given name : Name) (read start : ℤ) (limit : List ℕ) (until : Limit) → given ≡ name → read ≡ start → limit ≡ limit_text until →
    codes "new(" ++ (name_text given ++ (codes "," ++ (signed_decimal read ++ (codes "," ++ (limit ++ codes ")")))))
    ≡ codes "new(" ++ (name_text name ++ (codes "," ++ (signed_decimal start ++ (codes "," ++ (limit_text until ++ codes ")")))))
new-pieces given name read start limit until e z l = rw (e, z, l) refl

-- a message that was sent
pub send-pieces : (term : List ℕ) (given name : Name) → given ≡ name →
    codes "send(" ++ (term ++ (codes "," ++ (name_text given ++ codes ")")))
    ≡ codes "send(" ++ (term ++ (codes "," ++ (name_text name ++ codes ")")))
send-pieces term given name e = rw e refl

-- a process that holds
pub hold-pieces : (read duration : ℤ) → read ≡ duration → codes "hold(" ++ (signed_decimal read ++ codes ")") ≡ codes "hold(" ++ (signed_decimal duration ++ codes ")")
hold-pieces read duration e = rw e refl

-- what stands before an event's words
pub head-pieces : (read time : ℤ) (doer : Name) → read ≡ time → head_text read doer ≡ head_text time doer
head-pieces read time doer e = ap (λ z. head_text z doer) e

-- the line of an event
pub event-pieces : (read time : ℤ) (given name : Name) (words : List ℕ) → read ≡ time → given ≡ name →
    head_text read given ++ (words ++ codes "\n") ≡ line (head_text time name ++ words)
event-pieces read time given name words e n = rw (e, n) (simp append_assoc)

-- ---- variables

-- the line of a named variable
pub variable-pieces : (given name term : List ℕ) → given ≡ name → (given ++ codes " = ") ++ (term ++ codes "\n") ≡ line (name ++ (codes " = " ++ term))
variable-pieces given name term e = rw e (simp append_assoc)

-- ---- the first line and the last line of an answer

-- the first line
pub number-pieces : (number : ℕ) → codes "answer " ++ (decimal number ++ codes "\n") ≡ number_line number
number-pieces number = refl

-- the last line
pub clock-pieces : (read clock : ℤ) (steps : ℕ) → read ≡ clock → codes "end " ++ (signed_decimal read ++ (codes " steps " ++ (decimal steps ++ codes "\n"))) ≡ clock_line clock steps
clock-pieces read clock steps e = rw e (simp append_assoc)
