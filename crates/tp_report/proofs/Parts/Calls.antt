-- A text in parts, each of which a call adds.
use Rattle.std.proofs.Common.{◌≡◌, ℕ, List, ◌++◌, Result, IsErrAnd, chars, string_bytes, refl, sym}
use Rattle.std.specs.declared.alloc.Global.{Global}
use Rattle.std.specs.declared.string.String.{String}
use Rattle.tp_terms.specs.Added.{Progress, AddsPrefix, Adds}
use Rattle.tp_terms.proofs.Texts.Added.{Adds-as, Adds-exit, Adds-then, begins, goes, stops_within}

-- a call that stopped within a part of what was left
pub part_stops : {A E : Type 0} (Q : E → Type 0) (r : Result A E) (old mid new : String Global) (whole rest part left : List ℕ) → Progress (chars (string_bytes old)) (chars (string_bytes mid)) whole rest → rest ≡ part ++ left → IsErrAnd r Q → AddsPrefix (chars (string_bytes mid)) (chars (string_bytes new)) part → Adds old new r whole
part_stops Q r old mid new whole rest part left progress e is p =
    Adds-exit Q r old new whole is (stops_within (chars (string_bytes old)) (chars (string_bytes mid)) (chars (string_bytes new)) whole rest part left progress e p)

-- all but the rest, where the first part was added
pub first_goes : (old new whole part rest : List ℕ) → part ++ rest ≡ whole → new ≡ old ++ part → Progress old new whole rest
first_goes old new whole part rest e = goes old old new whole whole part rest (begins old old whole refl) (sym e)

-- all but the rest, where the first two parts were added
pub second_goes : (old mid new whole first second rest : List ℕ) → first ++ (second ++ rest) ≡ whole → mid ≡ old ++ first → new ≡ mid ++ second → Progress old new whole rest
second_goes old mid new whole first second rest e m =
    goes old mid new whole (second ++ rest) second rest (first_goes old mid whole first (second ++ rest) e m) refl

-- the first of some parts stopped
pub first_stops : {A E : Type 0} (Q : E → Type 0) (r : Result A E) (old new : String Global) (whole part rest : List ℕ) → part ++ rest ≡ whole → IsErrAnd r Q → AddsPrefix (chars (string_bytes old)) (chars (string_bytes new)) part → Adds old new r whole
first_stops Q r old new whole part rest e is p =
    let o = chars (string_bytes old) in
    part_stops Q r old old new whole whole part rest (begins o o whole refl) (sym e) is p

-- the second of some parts stopped
pub second_stops : {A E : Type 0} (Q : E → Type 0) (r : Result A E) (old mid new : String Global) (whole first second rest : List ℕ) → first ++ (second ++ rest) ≡ whole → IsErrAnd r Q → chars (string_bytes mid) ≡ chars (string_bytes old) ++ first → AddsPrefix (chars (string_bytes mid)) (chars (string_bytes new)) second → Adds old new r whole
second_stops Q r old mid new whole first second rest e is m p =
    part_stops Q r old mid new whole (second ++ rest) second rest (first_goes (chars (string_bytes old)) (chars (string_bytes mid)) whole first (second ++ rest) e m) refl is p

-- the last of three parts
pub third_adds : {A E : Type 0} (r : Result A E) (old one two new : String Global) (whole first second third : List ℕ) → first ++ (second ++ third) ≡ whole → chars (string_bytes one) ≡ chars (string_bytes old) ++ first → chars (string_bytes two) ≡ chars (string_bytes one) ++ second → Adds two new r third → Adds old new r whole
third_adds r old one two new whole first second third e m n h =
    Adds-as r old new (first ++ (second ++ third)) whole e (Adds-then r old one new first (second ++ third) m (Adds-then r one two new second third n h))
