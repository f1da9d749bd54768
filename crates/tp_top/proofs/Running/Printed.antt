-- Lines that are printed in one piece.
use Rattle.std.proofs.Common.{None, ◌≡◌, ℕ, List, ◌++◌, append_assoc, chars, string_bytes, String, Global, encode_utf8_all, refl, sym, ap, ◌∙◌}
use Rattle.std.specs.Prelude.{codes, decimal}
use Rattle.std.proofs.lemmas.Str.{IsUtf8-string_bytes, encodes-append}
use Rattle.tp_terms.proofs.Texts.Equal.{bytes-chars}
use Rattle.tp_clauses.specs.Model.{refusal}
use Rattle.tp_clauses.specs.declared.fault.Cause.{Cause}
use Rattle.tp_report.specs.End.{last_line}
use Rattle.tp_report.specs.declared.end.EndLine.{EndLine}
use Rattle.tp_top.specs.declared.program.Status.{Status}
use Rattle.tp_top.specs.declared.program.Status.TheVariants as status
use Rattle.tp_top.specs.Expected.{alone, cause_word, goal_refused, model_refused}
use Rattle.tp_top.specs.Report.{with_last}
use Rattle.tp_top.specs.Sample.{with_line}

four_pieces : (a b c d e : List ℕ) → a ++ (b ++ (c ++ (d ++ e))) ≡ (a ++ (b ++ (c ++ d))) ++ e
four_pieces a b c d e =
    sym (append_assoc a (b ++ (c ++ d)) e ∙ ap (λ x. a ++ x) (append_assoc b (c ++ d) e ∙ ap (λ x. b ++ x) (append_assoc c d e)))

pub goal-line : (text word : List ℕ) (byte : ℕ) (cause : Cause) → text ≡ codes "goal refused: byte " ++ (decimal byte ++ (codes " cause " ++ (word ++ codes "\n"))) → word ≡ cause_word cause → alone status.Goal text ≡ goal_refused (byte, cause)
goal-line text word byte cause e is =
    ap (alone status.Goal)
    (e ∙ ap (λ w. codes "goal refused: byte " ++ (decimal byte ++ (codes " cause " ++ (w ++ codes "\n")))) is
    ∙ four_pieces (codes "goal refused: byte ") (decimal byte) (codes " cause ") (cause_word cause) (codes "\n"))

pub model-line : (text word : List ℕ) (clause byte : ℕ) (cause : Cause) → text ≡ codes "model refused: clause " ++ (decimal clause ++ (codes " byte " ++ (decimal byte ++ (codes " cause " ++ (word ++ codes "\n"))))) → word ≡ cause_word cause → alone status.Model text ≡ model_refused (refusal clause byte cause)
model-line text word clause byte cause e is =
    let front = codes "model refused: clause " in
    ap (alone status.Model)
    (e ∙ ap (λ w. front ++ (decimal clause ++ (codes " byte " ++ (decimal byte ++ (codes " cause " ++ (w ++ codes "\n")))))) is
    ∙ ap (λ x. front ++ (decimal clause ++ x)) (four_pieces (codes " byte ") (decimal byte) (codes " cause ") (cause_word cause) (codes "\n"))
    ∙ sym (append_assoc front (decimal clause ++ (codes " byte " ++ (decimal byte ++ (codes " cause " ++ cause_word cause)))) (codes "\n")
    ∙ ap (λ x. front ++ x) (append_assoc (decimal clause) (codes " byte " ++ (decimal byte ++ (codes " cause " ++ cause_word cause))) (codes "\n"))))

-- the bytes of a text with a last line
pub reply-whole : (status : Status) (out : String Global) (begun : List ℕ) (steps : ℕ) (end : EndLine) (whole : Status × EndLine) → (let pair : Status × EndLine = (status, end) in pair ≡ whole) → chars (string_bytes out) ≡ begun ++ last_line end steps → alone status (string_bytes out) ≡ with_last begun steps whole None
reply-whole status out begun steps end whole is e =
    ap (alone status) (bytes-chars (string_bytes out) (begun ++ last_line end steps) (IsUtf8-string_bytes out) e) ∙ ap (λ w. with_last begun steps w None) is

-- the bytes of a line with a last line behind it
pub counts-whole : (status : Status) (begun out : String Global) (bytes : List ℕ) (steps : ℕ) (end : EndLine) (whole : Status × EndLine)
    → (let pair : Status × EndLine = (status, end) in pair ≡ whole) → string_bytes begun ≡ bytes
    → chars (string_bytes out) ≡ chars (string_bytes begun) ++ last_line end steps → alone status (string_bytes out) ≡ with_line bytes steps whole
counts-whole status begun out bytes steps end whole is same added =
    ap (alone status)
    (bytes-chars (string_bytes out) (chars (string_bytes begun) ++ last_line end steps) (IsUtf8-string_bytes out) added
    ∙ encodes-append (chars (string_bytes begun)) (last_line end steps)
    ∙ ap (λ b. b ++ encode_utf8_all (last_line end steps)) (sym (bytes-chars (string_bytes begun) (chars (string_bytes begun)) (IsUtf8-string_bytes begun) refl) ∙ same))
    ∙ ap (λ w. with_line bytes steps w) is
