-- What the reader's functions answer, against the reading of lists of tokens.
use Rattle.std.specs.Prelude.{◌≡◌, ℕ, Bool, true, false, ◌^◌, pos, nat_lt, if◌then◌else◌, ◌<◌, List}
use Rattle.std.specs.Prelude.{[], ◌∷◌, Option, Some, None, Result, Ok, Err}
use Rattle.tp_terms.specs.Term.{Name}
use Rattle.tp_lex.specs.Tokens.{Lexed}
use Rattle.tp_parse.specs.Tree.{Tree, Integer, Variable, Compound, Trees, none, first_of, unary}
use Rattle.tp_parse.specs.Tree.{list_cell, integers}
use Rattle.tp_lex.specs.declared.token.TokenKind.{TokenKind}
use Rattle.tp_lex.specs.declared.token.TokenKind.TheVariants as kind
use Rattle.tp_parse.specs.declared.fault.ReadCause.TheVariants as cause
use Rattle.tp_parse.specs.Table.{Op, Table, right_bound}
use Rattle.tp_parse.specs.Reading.{Read, Term, Inner, ◌>>=◌, args, elements}
use Rattle.tp_parse.specs.Ahead.{after_first}
use Rattle.tp_parse.specs.Steps.{AreReady, onto, count}
use Rattle.tp_parse.specs.Words.{AreKnown}
use Rattle.tp_parse.specs.declared.words.Word.{Word}
use Rattle.tp_parse.specs.declared.steps.Step.{Step}
use Rattle.tp_parse.specs.declared.stop.Stop.{Stop}
use Rattle.tp_parse.specs.declared.stop.Stop.TheVariants.{At, NoMemory}
use Rattle.tp_parse.specs.declared.stop.Follows.{Follows}
use Rattle.tp_parse.specs.declared.stop.Follows.TheVariants.{More, Nothing}

-- the words are known, and the steps can be made
pub record IsGoing (ops : Table) (text : List ℕ) (words : List Word)
    (steps : List Step) : Type 0 where
  pub known : AreKnown ops text words
  pub ready : AreReady text [] steps

-- an error is the stop, with these tokens left, unless memory was refused
abbrev pub Fails : {A : Type 0} → List Lexed → Stop → Read A → Type 0
Fails left NoMemory r = Unit {0}
Fails left (At cause) r = r ≡ Err (cause, left)

-- a tree was read, and was made on those before it
pub record IsRead (before after : List Tree) (left : List Lexed) (priority : ℕ)
    (r : Read Term) : Type 0 where
  pub tree : Tree
  pub read : r ≡ Ok (tree, priority, left)
  pub made : after ≡ tree ∷ before

abbrev pub GivesTerm : List Tree → List Tree → List Lexed → Result ℕ Stop → Read Term → Type 0
GivesTerm before after left (Ok priority) r = IsRead before after left priority r
GivesTerm before after left (Err stop) r = Fails left stop r

-- behind the closing token
abbrev pub GivesBehind : {A : Type 0} → List Lexed → Result A Stop → Read (List Lexed) → Type 0
GivesBehind left (Ok done) r = r ≡ Ok left
GivesBehind left (Err stop) r = Fails left stop r

-- arguments were read, so many
pub record IsRow (before after : List Tree) (left : List Lexed) (n : ℕ)
    (r : Read (Trees × List Lexed)) : Type 0 where
  pub trees : Trees
  pub read : r ≡ Ok (trees, left)
  pub made : after ≡ onto trees before
  pub counted : count trees ≡ n
  pub some : 0 < n

abbrev pub GivesRow : List Tree → List Tree → List Lexed → Result ℕ Stop →
    Read (Trees × List Lexed) → Type 0
GivesRow before after left (Ok n) r = IsRow before after left n r
GivesRow before after left (Err stop) r = Fails left stop r

-- an argument was read: the last, or one that others follow
pub record IsLastArg (before after : List Tree) (left : List Lexed)
    (r : Read (Trees × List Lexed)) : Type 0 where
  pub tree : Tree
  pub read : r ≡ Ok (first_of tree none, left)
  pub made : after ≡ tree ∷ before

pub record IsArg (inner : Inner) (n : ℕ) (before after : List Tree) (left : List Lexed)
    (r : Read (Trees × List Lexed)) : Type 0 where
  pub tree : Tree
  pub read : r ≡ (args inner n left >>= λ x. Ok (first_of tree x.0, x.1))
  pub made : after ≡ tree ∷ before
  pub some : 0 < n

abbrev pub GivesArg : Inner → ℕ → List Tree → List Tree → List Lexed → Result Follows Stop →
    Read (Trees × List Lexed) → Type 0
GivesArg inner n before after left (Ok Nothing) r = IsLastArg before after left r
GivesArg inner n before after left (Ok More) r = IsArg inner n before after left r
GivesArg inner n before after left (Err stop) r = Fails left stop r

-- an element was read: the last with the list's tail, or one that others follow
pub record IsLastElement (before after : List Tree) (left : List Lexed)
    (r : Read (Tree × List Lexed)) : Type 0 where
  pub tree : Tree
  pub rest : Tree
  pub read : r ≡ Ok (list_cell tree rest, left)
  pub made : after ≡ rest ∷ tree ∷ before

pub record IsElement (inner : Inner) (n : ℕ) (before after : List Tree) (left : List Lexed)
    (r : Read (Tree × List Lexed)) : Type 0 where
  pub tree : Tree
  pub read : r ≡ (elements inner n left >>= λ x. Ok (list_cell tree x.0, x.1))
  pub made : after ≡ tree ∷ before

abbrev pub GivesElement : Inner → ℕ → List Tree → List Tree → List Lexed → Result Follows Stop →
    Read (Tree × List Lexed) → Type 0
GivesElement inner n before after left (Ok Nothing) r = IsLastElement before after left r
GivesElement inner n before after left (Ok More) r = IsElement inner n before after left r
GivesElement inner n before after left (Err stop) r = Fails left stop r

-- a list was read
pub record IsList (before after : List Tree) (left : List Lexed)
    (r : Read (Tree × List Lexed)) : Type 0 where
  pub tree : Tree
  pub read : r ≡ Ok (tree, left)
  pub made : after ≡ tree ∷ before

abbrev pub GivesList : {A : Type 0} → List Tree → List Tree → List Lexed → Result A Stop →
    Read (Tree × List Lexed) → Type 0
GivesList before after left (Ok done) r = IsList before after left r
GivesList before after left (Err stop) r = Fails left stop r

-- an infix part was read behind a tree, or there was none
pub record IsNoPart (tree : Tree) (q : ℕ) (old new : List Tree) (ts left : List Lexed)
    (r : Read Term) : Type 0 where
  pub read : r ≡ Ok (tree, q, ts)
  pub left_is : left ≡ ts
  pub made : new ≡ old

pub record IsPart (more : Tree → ℕ → List Lexed → Read Term) (p : ℕ) (before after : List Tree)
    (left : List Lexed) (r : Read Term) : Type 0 where
  pub tree : Tree
  pub read : r ≡ more tree p left
  pub made : after ≡ tree ∷ before

abbrev pub GivesPart : (Tree → ℕ → List Lexed → Read Term) → Tree → ℕ → List Tree → List Tree →
    List Tree → List Lexed → List Lexed → Result (Option ℕ) Stop → Read Term → Type 0
GivesPart more tree q before old new ts left (Ok None) r = IsNoPart tree q old new ts left r
GivesPart more tree q before old new ts left (Ok (Some p)) r = IsPart more p before new left r
GivesPart more tree q before old new ts left (Err stop) r = Fails left stop r

-- a token that is a whole term
abbrev pub begins_leaf : TokenKind → Bool
begins_leaf kind.Integer = true
begins_leaf kind.Variable = true
begins_leaf kind.Codes = true
begins_leaf k = false

-- the first part of a term that has no terms in it, by the token that it begins with and what is
-- behind
abbrev pub simple : Lexed → List Lexed → TokenKind → Read Term
simple t ts kind.Integer =
    if nat_lt t.value (2 ^ 63) then Ok (Integer (pos t.value), 0, ts)
    else Err (cause.Number, t ∷ ts)
simple t ts kind.Variable = Ok (Variable t.name, 0, ts)
simple t ts kind.Codes = Ok (integers t.name, 0, ts)
simple t ts k = Err (cause.Syntax, t ∷ ts)

-- a prefix operator with its operand, from behind its name
abbrev pub operand : Inner → Name → List Lexed → Op → Read Term
operand inner f ts o = inner (right_bound o) ts >>= λ r. Ok (unary f r.0, o.0, r.2)

-- a compound, from behind its name
abbrev pub compound : Inner → Name → List Lexed → Read Term
compound inner f ts = args inner 255 (after_first ts) >>= λ r. Ok (Compound f r.0, 0, r.1)

-- what follows an argument
abbrev pub FollowsArg : (List Lexed → Read (Trees × List Lexed)) → ℕ → Tree → List Lexed →
    Result Follows Stop → Read (Trees × List Lexed) → Type 0
FollowsArg more n tree left (Ok Nothing) r = r ≡ Ok (first_of tree none, left)
FollowsArg more n tree left (Ok More) r =
    (r ≡ (more left >>= λ x. Ok (first_of tree x.0, x.1))) × (0 < n)
FollowsArg more n tree left (Err stop) r = Fails left stop r
