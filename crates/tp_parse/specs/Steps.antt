-- Trees by the steps that make them: a step takes the trees that were made last, and leaves one in
-- their place.
use Rattle.std.specs.Prelude.{◌≡◌, ℕ, zero, suc, ◌<◌, ◌≤◌, IsTrue, Bool, true, false, if◌then◌else◌}
use Rattle.std.specs.Prelude.{List, [], ◌∷◌, length, drop, Option, Some, None, codes, pos}
use Rattle.tp_terms.specs.Term.{Name}
use Rattle.tp_lex.specs.Form.{has_name}
use Rattle.tp_lex.specs.Next.{IsTokenOf, token_name}
use Rattle.tp_lex.specs.declared.token.Token.{Token}
use Rattle.tp_lex.specs.declared.token.TokenKind.{TokenKind}
use Rattle.tp_lex.specs.declared.token.TokenKind.TheVariants as kind
use Rattle.tp_parse.specs.Tree.{Tree, Variable, Integer, Atom, Compound, Trees, none, first_of}
use Rattle.tp_parse.specs.Tree.{list_cell}
use Rattle.tp_parse.specs.Table.{Op}
use Rattle.tp_parse.specs.Reading.{is_taken}
use Rattle.tp_parse.specs.Words.{first_word, after_word, atom_before}
use Rattle.tp_parse.specs.declared.words.Word.{Word}
use Rattle.tp_parse.specs.declared.steps.Label.{Label}
use Rattle.tp_parse.specs.declared.steps.Label.TheVariants as label
use Rattle.tp_parse.specs.declared.steps.Step.{Step}
use Rattle.tp_parse.specs.declared.steps.Step.TheVariants as step

-- the token of this kind from one byte up to another, and its name as a label
abbrev pub token_at : TokenKind → ℕ → ℕ → Token
token_at k from to = record { kind = k; from = from; to = to }

abbrev pub written : Token → Label
written token = label.Written token.kind token.from token.to

abbrev pub label_name : List ℕ → Label → Name
label_name text (label.Written k from to) = token_name text (token_at k from to)
label_name text label.EmptyList = codes "[]"
label_name text label.Braces = codes "{}"
label_name text label.Comma = codes ","

-- the last trees in their order, so many, before those behind them; the last tree made stands first
-- in the list
abbrev pub row : ℕ → List Tree → Trees → Trees
row zero made more = more
row (suc n) [] more = more
row (suc n) (t ∷ made) more = row n made (first_of t more)

-- the last tree becomes the tail of a list of so many trees before it
abbrev pub linked : ℕ → List Tree → List Tree
linked zero made = made
linked (suc n) [] = []
linked (suc n) (t ∷ []) = t ∷ []
linked (suc n) (t ∷ u ∷ made) = linked n (list_cell u t ∷ made)

-- the trees after a step
abbrev pub act : List ℕ → Step → List Tree → List Tree
act text (step.Variable token) made = Variable (token_name text token) ∷ made
act text (step.Integer value) made = Integer value ∷ made
act text (step.Atom name) made = Atom (label_name text name) ∷ made
act text (step.Compound count name) made =
    Compound (label_name text name) (row count made none) ∷ drop count made
act text (step.List count) made = linked count made

-- the trees after these steps
abbrev pub run : List ℕ → List Tree → List Step → List Tree
run text made [] = made
run text made (s ∷ steps) = run text (act text s made) steps

abbrev pub trees_of : List ℕ → List Step → List Tree
trees_of text steps = run text [] steps

-- the token is one of the text and has a name
abbrev pub HasName : List ℕ → Token → Type 0
HasName text token = IsTokenOf text token × IsTrue (has_name token.kind)

abbrev pub IsLabel : List ℕ → Label → Type 0
IsLabel text (label.Written k from to) = HasName text (token_at k from to)
IsLabel text name = Unit {0}

-- the step can be made where there are so many trees
abbrev pub IsReady : List ℕ → ℕ → Step → Type 0
IsReady text n (step.Variable token) = HasName text token × (token.kind ≡ kind.Variable)
IsReady text n (step.Integer value) = Unit {0}
IsReady text n (step.Atom name) = IsLabel text name
IsReady text n (step.Compound count name) = IsLabel text name × (0 < count) × (count ≤ n)
IsReady text n (step.List count) = count < n

abbrev pub AreReady : List ℕ → List Tree → List Step → Type 0
AreReady text made [] = Unit {0}
AreReady text made (s ∷ steps) =
    IsReady text (length made) s × AreReady text (act text s made) steps

-- ---- the words of operators

abbrev pub label_by : TokenKind → Token → Label
label_by kind.Comma token = label.Comma
label_by k token = written token

abbrev pub labelled : Word → Option Op → Option (Label × Op)
labelled w None = None
labelled w (Some o) = Some (label_by w.token.kind w.token, o)

-- the infix operator that a word is, with its name
abbrev pub infix_word : Option Word → Option (Label × Op)
infix_word None = None
infix_word (Some w) = labelled w w.as_infix

-- ---- lists

-- these trees on those that were made before
abbrev pub onto : Trees → List Tree → List Tree
onto none made = made
onto (first_of t ts) made = onto ts (t ∷ made)

abbrev pub count : Trees → ℕ
count none = 0
count (first_of t ts) = suc (count ts)

abbrev pub list_of : Trees → Tree → Tree
list_of none tail = tail
list_of (first_of t ts) tail = list_cell t (list_of ts tail)

-- the last tree, and those before it
abbrev pub top_of : List Tree → Tree
top_of [] = Atom []
top_of (t ∷ made) = t

abbrev pub under : List Tree → List Tree
under [] = []
under (t ∷ made) = made

-- these codes, as integers, on the trees that were made before
abbrev pub onto_codes : List ℕ → List Tree → List Tree
onto_codes [] made = made
onto_codes (n ∷ ns) made = onto_codes ns (Integer (pos n) ∷ made)

-- ---- what stands before the next words

abbrev pub is_named : TokenKind → Bool
is_named kind.Name = true
is_named kind.Quoted = true
is_named k = false

abbrev pub operator_by : Option Op → Bool → Option Op
operator_by op true = None
operator_by op false = op

-- behind an element, a token that ends the list or stands before its tail
abbrev pub ends_list : TokenKind → Bool
ends_list kind.CloseList = true
ends_list kind.Bar = true
ends_list k = false

-- the operator that a name is, where it is no atom
abbrev pub operator_of : Word → List Word → Option Op
operator_of w ws =
    operator_by w.as_prefix (atom_before (first_word ws) (first_word (after_word ws)))

-- the infix operator, where it is taken
abbrev pub taken_of : ℕ → ℕ → Option (Label × Op) → Option (Label × Op)
taken_of p q None = None
taken_of p q (Some o) = if is_taken o.1 p q then Some o else None
