-- The law that what is written reads back.
use Rattle.std.specs.Prelude.{◌≡◌, ◌≢◌, ℕ, ◌+◌, ◌^◌, ◌<◌, ◌≤◌, Bool, true, false, nat_eq, nat_lt}
use Rattle.std.specs.Prelude.{max, List, [], ◌∷◌, ◌++◌, length, fold, ℤ, pos, negsuc, Some, Ok}
use Rattle.std.specs.Prelude.{codes, encode_utf8_all, if◌then◌else◌}
use Rattle.std.specs.List.{list_any}
use Rattle.std.specs.Str.{all_scalars}
use Rattle.tp_terms.specs.Term.{Name, Term, Terms, Var, Int, Atom, Comp, NoMore, More, names_eq}
use Rattle.tp_terms.specs.Term.{replaced, count_of}
use Rattle.tp_parse.specs.Table.{Op, Table, right_bound, start_table}
use Rattle.tp_parse.specs.Texts.{Found, clause_of}
use Rattle.tp_write.specs.Text.{Form, Listed, Braces, Infix, Prefix, form_of, priority}
use Rattle.tp_write.specs.Text.{operand_closed, left_closed, unary, binary, text}

-- ---- the terms of which the law speaks

-- an integer of 64 bits, from -2 ^ 63 on; `negsuc n` is -1 - n
abbrev pub IsInteger64 : ℤ → Type 0
IsInteger64 (pos n) = n < 2 ^ 63
IsInteger64 (negsuc n) = n < 2 ^ 63

-- the name of a compound with so many arguments: not `[]`, and `{}` only with one argument
pub record NamesCompound (f : Name) (count : ℕ) : Type 0 where
  pub characters : all_scalars f ≡ true
  pub no_brackets : f ≢ codes "[]"
  pub braces_once : f ≡ codes "{}" → count ≡ 1
  pub some_argument : 1 ≤ count
  pub most_arguments : count ≤ 255

-- Names are made of characters, integers and the numbers of variables are within 64 bits, and each
-- compound has from 1 to 255 arguments and a name that it may have.
abbrev mutual
  pub IsReadable : Term → Type 0
  IsReadable (Var v) = v < 2 ^ 64
  IsReadable (Int z) = IsInteger64 z
  IsReadable (Atom a) = all_scalars a ≡ true
  IsReadable (Comp f ts) = NamesCompound f (count_of ts) × AreReadable ts

  pub AreReadable : Terms → Type 0
  AreReadable NoMore = Unit {0}
  AreReadable (More t ts) = IsReadable t × AreReadable ts

-- ---- the depth of the written form

-- the depth of a term's written form without parentheses around it, and of what it adds behind an
-- element of a list
pub record Depths : Type 0 where
  pub alone : ℕ
  pub behind : ℕ

-- what stands in parentheses is one deeper
abbrev pub enclosed_depth : Bool → ℕ → ℕ
enclosed_depth true d = d + 1
enclosed_depth false d = d

-- a term where the largest priority is given
abbrev pub depth_within : Table → ℕ → Term → ℕ → ℕ
depth_within ops max t d = enclosed_depth (nat_lt max (priority ops t)) d

-- a left operand
abbrev pub left_depth : Table → Op → Term → ℕ → ℕ
left_depth ops o t d = enclosed_depth (left_closed ops o t) d

-- a right operand is one deeper than the term around it
abbrev pub right_depth : Table → Op → Term → ℕ → ℕ
right_depth ops o t d = enclosed_depth (operand_closed ops (right_bound o) t) d + 1

-- the deepest of the arguments
abbrev pub args_depth : Table → Terms → List Depths → ℕ
args_depth ops (More t ts) (d ∷ ds) = max (depth_within ops 999 t d.alone) (args_depth ops ts ds)
args_depth ops ts ds = 0

-- a term that is no list, of this depth
abbrev pub not_list_depths : Table → Term → ℕ → Depths
not_list_depths ops t d = record { alone = d; behind = depth_within ops 999 t d }

-- an element of a list and what follows it
abbrev pub list_depths : Table → Term → ℕ → ℕ → Depths
list_depths ops h d rest =
    let inside = max (depth_within ops 999 h d) rest in
    record { alone = inside + 1; behind = inside }

-- a compound of one argument
abbrev pub unary_depths : Table → Name → Term → Depths → Form → Depths
unary_depths ops f a d Braces =
    not_list_depths ops (unary f a) (depth_within ops 1200 a d.alone + 1)
unary_depths ops f a d (Prefix o) =
    not_list_depths ops (unary f a) (right_depth ops o a d.alone)
unary_depths ops f a d form =
    not_list_depths ops (unary f a) (args_depth ops (More a NoMore) (d ∷ []) + 1)

-- a compound of two arguments
abbrev pub binary_depths : Table → Name → Term → Depths → Term → Depths → Form → Depths
binary_depths ops f a d b e Listed = list_depths ops a d.alone e.behind
binary_depths ops f a d b e (Infix o) =
    let inside = max (left_depth ops o a d.alone) (right_depth ops o b e.alone) in
    not_list_depths ops (binary f a b) inside
binary_depths ops f a d b e form =
    let inside = args_depth ops (More a (More b NoMore)) (d ∷ e ∷ []) in
    not_list_depths ops (binary f a b) (inside + 1)

-- a compound, whose arguments' depths are given
abbrev pub compound_depths : Table → Name → Terms → List Depths → Depths
compound_depths ops f (More a NoMore) (d ∷ ds) =
    unary_depths ops f a d (form_of ops (unary f a))
compound_depths ops f (More a (More b NoMore)) (d ∷ e ∷ ds) =
    binary_depths ops f a d b e (form_of ops (binary f a b))
compound_depths ops f ts ds = not_list_depths ops (Comp f ts) (args_depth ops ts ds + 1)

-- an atom; the empty list adds nothing behind an element
abbrev pub atom_depths : Name → Depths
atom_depths a = record { alone = 1; behind = if names_eq a (codes "[]") then 0 else 1 }

-- the depths of a term, and those of each argument
unfoldable mutual
  pub depths : Table → Term → Depths
  depths ops (Var v) = not_list_depths ops (Var v) 1
  depths ops (Int z) = not_list_depths ops (Int z) 1
  depths ops (Atom a) = atom_depths a
  depths ops (Comp f ts) = compound_depths ops f ts (all_depths ops ts)

  pub all_depths : Table → Terms → List Depths
  all_depths ops NoMore = []
  all_depths ops (More t ts) = depths ops t ∷ all_depths ops ts

-- the depth of `text ops max t`
unfoldable pub depth : Table → ℕ → Term → ℕ
depth ops max t = depth_within ops max t (depths ops t).alone

-- ---- variables renumbered

-- the variables from left to right, each as often as it occurs
abbrev mutual
  pub variables : Term → List ℕ
  variables (Var v) = v ∷ []
  variables (Int z) = []
  variables (Atom a) = []
  variables (Comp f ts) = all_variables ts

  pub all_variables : Terms → List ℕ
  all_variables NoMore = []
  all_variables (More t ts) = variables t ++ all_variables ts

-- a list with one more at its end, unless it has it already
abbrev pub with_new : List ℕ → ℕ → List ℕ
with_new vs v = if list_any (nat_eq v) vs then vs else vs ++ v ∷ []

-- each once, in order of first occurrence
abbrev pub first_occurrences : List ℕ → List ℕ
first_occurrences vs = fold with_new [] vs

-- the place in a list, from 0
abbrev pub place_in : ℕ → List ℕ → ℕ
place_in v [] = 0
place_in v (w ∷ ws) = if nat_eq v w then 0 else (place_in v ws + 1)

-- the variables numbered from 0 in order of first occurrence
abbrev pub renumbered : Term → Term
renumbered t = replaced (λ v. Var (place_in v (first_occurrences (variables t)))) t

-- ---- the law

-- the bytes of what is written at 1200 with an end behind it: a space, a dot and a newline
abbrev pub written_clause : Term → List ℕ
written_clause t = encode_utf8_all (text start_table 1200 t ++ codes " .\n")

-- the bytes are read as the term with its variables renumbered, from the first byte on, up to the
-- byte after the dot
pub record ReadsAs (t : Term) : Type 0 where
  pub found : Found
  pub read : clause_of start_table (written_clause t) 0 ≡ Ok (Some found)
  pub same : found.term ≡ renumbered t
  pub from : found.from ≡ 0
  pub to : found.to ≡ length (encode_utf8_all (text start_table 1200 t ++ codes " ."))

-- every readable term that is at most 1,000 deep reads back
abbrev pub WrittenReadsBack : Type 0
WrittenReadsBack = (t : Term) → IsReadable t → depth start_table 1200 t ≤ 1000 → ReadsAs t
