-- Error terms, cell by cell.
use Rattle.std.proofs.Common.{◌≡◌, ℕ, suc, ◌+◌, ◌<◌, ◌≤◌, pos, List, [], ◌∷◌, ◌++◌, length, Some, slice_get, refl, ap, sym, subst, ◌∙◌, arith, append_assoc, length-append, codes, Result, Ok, Err, IfOk}
use Rattle.tp_terms.specs.declared.cells.AtomId.{AtomId}
use Rattle.tp_terms.specs.declared.cells.Ref.{Ref}
use Rattle.tp_terms.specs.declared.cells.Cell.{Cell}
use Rattle.tp_terms.specs.declared.cells.Cell.TheVariants as cell
use Rattle.tp_terms.specs.declared.symbols.TheConstants.{SLASH, ERROR, INSTANTIATION_ERROR, TYPE_ERROR, EXISTENCE_ERROR, PERMISSION_ERROR, ATOM, CALLABLE, CREATE, INTEGER, LIST, PROCEDURE, PROCESS}
use Rattle.tp_terms.specs.Term.{Name, Term, Int, Atom, Comp, NoMore, More, atom, comp}
use Rattle.tp_terms.specs.Names.{IsTable}
use Rattle.tp_terms.specs.StartNames.{start_names}
use Rattle.tp_terms.specs.Shown.{name_at, shows, shown_from, IsNamed, AreNamed, StandsBefore}
use Rattle.tp_terms.proofs.Places.Shown.{shows-cell, shown_from-append, AreNamed-append}
use Rattle.tp_terms.proofs.Naming.Start.{start-name_at, start-within}
use Rattle.tp_meaning.specs.Checks.{unbound, type_error, domain_error, evaluation_error, representation_error, existence_error, permission_error, indicator, error}
use Rattle.tp_store.specs.Contents.{Contents, IsStore, IsNumbered, Keeps, AddsCells, with_cell}
use Rattle.tp_machine.specs.Built.{Built}
use Rattle.tp_machine.specs.Causes.{kind_of_word, kind_with, wrong_domain}

-- the contents with further cells
abbrev pub with_cells : Contents → List Cell → Contents
with_cells c ds = record { cells = c.cells ++ ds; pairs = c.pairs; vars = c.vars }

pub more_cells : (c s t : Contents) (ds : List Cell) (x : Cell) → s ≡ with_cells c ds → t ≡ with_cell s x → t ≡ with_cells c (ds ++ x ∷ [])
more_cells c s t ds x e h = h ∙ ap (λ (q : Contents). with_cell q x) e ∙ ap (λ cs. record { cells = cs; pairs = c.pairs; vars = c.vars }) (append_assoc c.cells ds (x ∷ []))

pub adds_cells : (c t : Contents) (ds : List Cell) → t ≡ with_cells c ds → AddsCells c t
adds_cells c t ds e = record { more = ds; cells = ap (λ (q : Contents). q.cells) e; pairs = ap (λ (q : Contents). q.pairs) e; vars = ap (λ (q : Contents). q.vars) e }

pub length_cells : (c t : Contents) (ds : List Cell) → t ≡ with_cells c ds → length t.cells ≡ length c.cells + length ds
length_cells c t ds e = ap (λ (q : Contents). length q.cells) e ∙ length-append c.cells ds

pub keeps_trans : (a b c : Contents) → length a.cells ≤ length b.cells → Keeps a b → Keeps b c → Keeps a c
keeps_trans a b c le h k = record {
  terms = λ names at lt. k.terms names at (omega arith) ∙ h.terms names at lt;
  bindings = λ names. k.bindings names ∙ h.bindings names;
}

pub adds_trans : (a b c : Contents) → AddsCells a b → AddsCells b c → AddsCells a c
adds_trans a b c h k = record {
  more = h.more ++ k.more;
  cells = k.cells ∙ ap (λ cs. cs ++ k.more) h.cells ∙ append_assoc a.cells h.more k.more;
  pairs = k.pairs ∙ h.pairs;
  vars = k.vars ∙ h.vars;
}

slice_get-add : (cs ds : List Cell) (k : ℕ) → slice_get (cs ++ ds) (length cs + k) ≡ slice_get ds k
slice_get-add [] ds k = ap (slice_get ds) (let e : 0 + k ≡ k = omega arith in e)
slice_get-add (c ∷ cs) ds k = ap (slice_get ((c ∷ cs) ++ ds)) (let e : suc (length cs) + k ≡ suc (length cs + k) = omega arith in e) ∙ slice_get-add cs ds k

-- a cell that stands at a place may stand behind it
pub before-longer : (m n : ℕ) (x : Cell) → m ≤ n → StandsBefore m x → StandsBefore n x
before-longer m n (cell.Var v) le h = tt
before-longer m n (cell.Int z) le h = tt
before-longer m n (cell.Atom a) le h = tt
before-longer m n (cell.Comp f first count) le h = (h.0, let b = h.1 in omega arith)

-- the number of a cell's variable was claimed
pub numbered_cell : (c : Contents) (at : ℕ) (x : Cell) → IsStore c → slice_get c.cells at ≡ Some x → IsNumbered c.vars x
numbered_cell c at (cell.Var v) s e = s.numbered at v e
numbered_cell c at (cell.Int z) s e = tt
numbered_cell c at (cell.Atom a) s e = tt
numbered_cell c at (cell.Comp f first count) s e = tt

-- what the k-th of further cells shows
module _ (names : List Name) (cs ds : List Cell) where
  pub shows-at : (k at : ℕ) (x : Cell) → at ≡ length cs + k → slice_get ds k ≡ Some x → StandsBefore at x → shows names (cs ++ ds) at ≡ shown_from names (cs ++ ds) x
  shows-at k at x e h before = shows-cell names (cs ++ ds) at x (ap (slice_get (cs ++ ds)) e ∙ slice_get-add cs ds k ∙ h) before

  pub shows-pair : (k at : ℕ) (name : AtomId) (first : Ref) → at ≡ length cs + k → slice_get ds k ≡ Some (cell.Comp name first 2) → first.at + 2 ≤ at
      → shows names (cs ++ ds) at ≡ Comp (name_at names name.at) (More (shows names (cs ++ ds) first.at) (More (shows names (cs ++ ds) (suc first.at)) NoMore))
  shows-pair k at name first e h le = shows-at k at (cell.Comp name first 2) e h (omega arith, le)

  pub shows-triple : (k at : ℕ) (name : AtomId) (first : Ref) → at ≡ length cs + k → slice_get ds k ≡ Some (cell.Comp name first 3) → first.at + 3 ≤ at
      → shows names (cs ++ ds) at ≡ Comp (name_at names name.at) (More (shows names (cs ++ ds) first.at) (More (shows names (cs ++ ds) (suc first.at)) (More (shows names (cs ++ ds) (suc (suc first.at))) NoMore)))
  shows-triple k at name first e h le = shows-at k at (cell.Comp name first 3) e h (omega arith, le)

-- names of the start
module _ (names : List Name) (table : IsTable names) where
  pub is_slash : name_at names 69 ≡ codes "/"
  unfolding start_names
  is_slash = start-name_at names table 69 (codes "/") refl

  pub is_error : name_at names 78 ≡ codes "error"
  unfolding start_names
  is_error = start-name_at names table 78 (codes "error") refl

  pub is_unbound : name_at names 79 ≡ codes "instantiation_error"
  unfolding start_names
  is_unbound = start-name_at names table 79 (codes "instantiation_error") refl

  pub is_type : name_at names 80 ≡ codes "type_error"
  unfolding start_names
  is_type = start-name_at names table 80 (codes "type_error") refl

  pub is_existence : name_at names 82 ≡ codes "existence_error"
  unfolding start_names
  is_existence = start-name_at names table 82 (codes "existence_error") refl

  pub is_callable : name_at names 28 ≡ codes "callable"
  unfolding start_names
  is_callable = start-name_at names table 28 (codes "callable") refl

  pub is_integer : name_at names 25 ≡ codes "integer"
  unfolding start_names
  is_integer = start-name_at names table 25 (codes "integer") refl

  pub is_domain : name_at names 81 ≡ codes "domain_error"
  unfolding start_names
  is_domain = start-name_at names table 81 (codes "domain_error") refl

  pub is_permission : name_at names 83 ≡ codes "permission_error"
  unfolding start_names
  is_permission = start-name_at names table 83 (codes "permission_error") refl

  pub is_representation : name_at names 84 ≡ codes "representation_error"
  unfolding start_names
  is_representation = start-name_at names table 84 (codes "representation_error") refl

  pub is_evaluation : name_at names 85 ≡ codes "evaluation_error"
  unfolding start_names
  is_evaluation = start-name_at names table 85 (codes "evaluation_error") refl

  pub is_max_arity : name_at names 96 ≡ codes "max_arity"
  unfolding start_names
  is_max_arity = start-name_at names table 96 (codes "max_arity") refl

  pub is_int_overflow : name_at names 98 ≡ codes "int_overflow"
  unfolding start_names
  is_int_overflow = start-name_at names table 98 (codes "int_overflow") refl

  pub is_atom : name_at names 24 ≡ codes "atom"
  unfolding start_names
  is_atom = start-name_at names table 24 (codes "atom") refl

  pub is_process : name_at names 89 ≡ codes "process"
  unfolding start_names
  is_process = start-name_at names table 89 (codes "process") refl

  pub is_list : name_at names 87 ≡ codes "list"
  unfolding start_names
  is_list = start-name_at names table 87 (codes "list") refl

  pub is_create : name_at names 90 ≡ codes "create"
  unfolding start_names
  is_create = start-name_at names table 90 (codes "create") refl

  pub is_process_name : name_at names 93 ≡ codes "process_name"
  unfolding start_names
  is_process_name = start-name_at names table 93 (codes "process_name") refl

  pub is_empty_list : name_at names 1 ≡ codes "[]"
  unfolding start_names
  is_empty_list = start-name_at names table 1 (codes "[]") refl

  pub is_not_less : name_at names 94 ≡ codes "not_less_than_zero"
  unfolding start_names
  is_not_less = start-name_at names table 94 (codes "not_less_than_zero") refl

  pub is_start_time : name_at names 91 ≡ codes "start_time"
  unfolding start_names
  is_start_time = start-name_at names table 91 (codes "start_time") refl

  pub is_end_time : name_at names 92 ≡ codes "end_time"
  unfolding start_names
  is_end_time = start-name_at names table 92 (codes "end_time") refl

  -- kinds of error that have a culprit, by their names
  pub not_callable : (t : Term) → kind_with (name_at names TYPE_ERROR.at) (name_at names CALLABLE.at) t ≡ type_error "callable" t
  not_callable t = ap (λ e. kind_with e (name_at names CALLABLE.at) t) is_type ∙ ap (λ f. kind_with (codes "type_error") f t) is_callable

  pub not_integer : (t : Term) → kind_with (name_at names TYPE_ERROR.at) (name_at names INTEGER.at) t ≡ type_error "integer" t
  not_integer t = ap (λ e. kind_with e (name_at names INTEGER.at) t) is_type ∙ ap (λ f. kind_with (codes "type_error") f t) is_integer

  pub not_atom : (t : Term) → kind_with (name_at names TYPE_ERROR.at) (name_at names ATOM.at) t ≡ type_error "atom" t
  not_atom t = ap (λ e. kind_with e (name_at names ATOM.at) t) is_type ∙ ap (λ f. kind_with (codes "type_error") f t) is_atom

  pub not_list : (t : Term) → kind_with (name_at names TYPE_ERROR.at) (name_at names LIST.at) t ≡ type_error "list" t
  not_list t = ap (λ e. kind_with e (name_at names LIST.at) t) is_type ∙ ap (λ f. kind_with (codes "type_error") f t) is_list

  pub no_process : (t : Term) → kind_with (name_at names EXISTENCE_ERROR.at) (name_at names PROCESS.at) t ≡ existence_error "process" t
  no_process t = ap (λ e. kind_with e (name_at names PROCESS.at) t) is_existence ∙ ap (λ f. kind_with (codes "existence_error") f t) is_process

  pub is_wrong_domain : (of : Name) (t : Term) → kind_with (name_at names 81) of t ≡ wrong_domain of t
  is_wrong_domain of t = ap (λ f. kind_with f of t) is_domain

  pub is_empty_name : kind_with (name_at names 81) (name_at names 93) (Atom (name_at names 1)) ≡ domain_error "process_name" (atom "[]")
  is_empty_name = is_wrong_domain (name_at names 93) (Atom (name_at names 1)) ∙ ap (λ f. wrong_domain f (Atom (name_at names 1))) is_process_name ∙ ap (λ f. wrong_domain (codes "process_name") (Atom f)) is_empty_list

  -- those that have a word
  pub is_too_many : kind_of_word (name_at names 84) (name_at names 96) ≡ representation_error "max_arity"
  is_too_many = ap (λ f. kind_of_word f (name_at names 96)) is_representation ∙ ap (kind_of_word (codes "representation_error")) is_max_arity

  pub is_overflow : kind_of_word (name_at names 85) (name_at names 98) ≡ evaluation_error "int_overflow"
  is_overflow = ap (λ f. kind_of_word f (name_at names 98)) is_evaluation ∙ ap (kind_of_word (codes "evaluation_error")) is_int_overflow

  -- names up to the last are of the table
  pub name_within : (at : ℕ) → at < 103 → at < length names
  name_within at lt = start-within names table at lt

  pub is_procedure : name_at names 88 ≡ codes "procedure"
  unfolding start_names
  is_procedure = start-name_at names table 88 (codes "procedure") refl

  module _ (old new : Contents) (keeps : Keeps old new) (store : IsStore new) (named : AreNamed (length names) old.cells) where
    -- cells at the end of a store, the last of which shows a term
    pub built : (ds : List Cell) (at : ℕ) (t : Term) → new ≡ with_cells old ds → AreNamed (length names) ds → at + 1 ≡ length old.cells + length ds → shows names (old.cells ++ ds) at ≡ t → Built names old new at t
    built ds at t e n last is = record {
      adds = adds_cells old new ds e;
      keeps = keeps;
      store = store;
      named = subst (AreNamed (length names)) (sym (ap (λ (q : Contents). q.cells) e)) (AreNamed-append (length names) old.cells ds named n);
      last = last ∙ sym (length_cells old new ds e);
      shown = ap (λ (q : Contents). shows names q.cells at) e ∙ is;
    }

    pub unbound_built : (at : Ref) → at.at ≡ length old.cells → new ≡ with_cell old (cell.Atom INSTANTIATION_ERROR) → Built names old new at.at unbound
    unbound_built at place e =
        built (cell.Atom INSTANTIATION_ERROR ∷ []) at.at unbound e (start-within names table 79 (omega arith), tt) (omega (arith, place))
        (shows-at names old.cells (cell.Atom INSTANTIATION_ERROR ∷ []) 0 at.at (cell.Atom INSTANTIATION_ERROR) (omega (arith, place)) refl tt ∙ ap Atom is_unbound)

    pub culprit_built : (kind of : AtomId) (what at : Ref) (x : Cell) → kind.at < length names → of.at < length names → StandsBefore (length old.cells) x → IsNamed (length names) x → what.at ≡ length old.cells → at.at ≡ length old.cells + 2
        → new ≡ with_cells old (cell.Atom of ∷ x ∷ cell.Comp kind what 2 ∷ []) → Built names old new at.at (kind_with (name_at names kind.at) (name_at names of.at) (shown_from names old.cells x))
    culprit_built kind of what at x known within before atoms first place e =
        let ds = cell.Atom of ∷ x ∷ cell.Comp kind what 2 ∷ [] in
        let f = name_at names kind.at in
        built ds at.at (kind_with (name_at names kind.at) (name_at names of.at) (shown_from names old.cells x)) e (within, (atoms, (known, tt))) (omega (arith, place))
        (shows-pair names old.cells ds 2 at.at kind what place refl (omega (arith, first, place))
        ∙ ap (λ t. Comp f (More t (More (shows names (old.cells ++ ds) (suc what.at)) NoMore))) (shows-at names old.cells ds 0 what.at (cell.Atom of) (omega (arith, first)) refl tt)
        ∙ ap (λ t. Comp f (More (Atom (name_at names of.at)) (More t NoMore))) (shows-at names old.cells ds 1 (suc what.at) x (omega (arith, first)) refl (before-longer (length old.cells) (suc what.at) x (omega (arith, first)) before) ∙ shown_from-append names old.cells ds x before))

    pub word_built : (kind word : AtomId) (what at : Ref) → kind.at < length names → word.at < length names → what.at ≡ length old.cells → at.at ≡ length old.cells + 1 → new ≡ with_cells old (cell.Atom word ∷ cell.Comp kind what 1 ∷ [])
        → Built names old new at.at (kind_of_word (name_at names kind.at) (name_at names word.at))
    word_built kind word what at known within first place e =
        let ds = cell.Atom word ∷ cell.Comp kind what 1 ∷ [] in
        built ds at.at (kind_of_word (name_at names kind.at) (name_at names word.at)) e (within, (known, tt)) (omega (arith, place))
        (shows-at names old.cells ds 1 at.at (cell.Comp kind what 1) place refl (omega arith, omega (arith, first, place))
        ∙ ap (λ t. Comp (name_at names kind.at) (More t NoMore)) (shows-at names old.cells ds 0 what.at (cell.Atom word) (omega (arith, first)) refl tt))

    pub taken_built : (act at : Ref) (x : Cell) → StandsBefore (length old.cells) x → IsNamed (length names) x → act.at ≡ length old.cells → at.at ≡ length old.cells + 3
        → new ≡ with_cells old (cell.Atom CREATE ∷ cell.Atom PROCESS ∷ x ∷ cell.Comp PERMISSION_ERROR act 3 ∷ []) → Built names old new at.at (permission_error "create" "process" (shown_from names old.cells x))
    taken_built act at x before atoms first place e =
        let ds = cell.Atom CREATE ∷ cell.Atom PROCESS ∷ x ∷ cell.Comp PERMISSION_ERROR act 3 ∷ [] in
        let cs = old.cells ++ ds in
        let culprit = shown_from names old.cells x in
        built ds at.at (permission_error "create" "process" (shown_from names old.cells x)) e
        (start-within names table 90 (omega arith), (start-within names table 89 (omega arith), (atoms, (start-within names table 83 (omega arith), tt)))) (omega (arith, place))
        (shows-triple names old.cells ds 3 at.at PERMISSION_ERROR act place refl (omega (arith, first, place))
        ∙ ap (λ t. Comp (name_at names 83) (More t (More (shows names cs (suc act.at)) (More (shows names cs (suc (suc act.at))) NoMore)))) (shows-at names old.cells ds 0 act.at (cell.Atom CREATE) (omega (arith, first)) refl tt)
        ∙ ap (λ t. Comp (name_at names 83) (More (Atom (name_at names 90)) (More t (More (shows names cs (suc (suc act.at))) NoMore)))) (shows-at names old.cells ds 1 (suc act.at) (cell.Atom PROCESS) (omega (arith, first)) refl tt)
        ∙ ap (λ t. Comp (name_at names 83) (More (Atom (name_at names 90)) (More (Atom (name_at names 89)) (More t NoMore)))) (shows-at names old.cells ds 2 (suc (suc act.at)) x (omega (arith, first)) refl (before-longer (length old.cells) (suc (suc act.at)) x (omega (arith, first)) before) ∙ shown_from-append names old.cells ds x before)
        ∙ ap (λ f. Comp f (More (Atom (name_at names 90)) (More (Atom (name_at names 89)) (More culprit NoMore)))) is_permission
        ∙ ap (λ f. comp "permission_error" (Atom f ∷ Atom (name_at names 89) ∷ culprit ∷ [])) is_create
        ∙ ap (λ f. comp "permission_error" (atom "create" ∷ Atom f ∷ culprit ∷ [])) is_process)

    pub error_built : (kind at : Ref) (process : AtomId) → kind.at + 1 ≡ length old.cells → at.at ≡ length old.cells + 1 → process.at < length names → new ≡ with_cells old (cell.Atom process ∷ cell.Comp ERROR kind 2 ∷ [])
        → ((ds : List Cell) → shows names (old.cells ++ ds) kind.at ≡ shows names old.cells kind.at) → Built names old new at.at (error (shows names old.cells kind.at) (name_at names process.at))
    error_built kind at process last place within e stays =
        let ds = cell.Atom process ∷ cell.Comp ERROR kind 2 ∷ [] in
        built ds at.at (error (shows names old.cells kind.at) (name_at names process.at)) e (within, (start-within names table 78 (omega arith), tt)) (omega (arith, place))
        (shows-pair names old.cells ds 1 at.at ERROR kind place refl (omega (arith, last, place))
        ∙ ap (λ t. Comp (name_at names 78) (More t (More (shows names (old.cells ++ ds) (suc kind.at)) NoMore))) (stays ds)
        ∙ ap (λ t. Comp (name_at names 78) (More (shows names old.cells kind.at) (More t NoMore))) (shows-at names old.cells ds 0 (suc kind.at) (cell.Atom process) (omega (arith, last)) refl tt)
        ∙ ap (λ f. Comp f (More (shows names old.cells kind.at) (More (Atom (name_at names process.at)) NoMore))) is_error)

    pub unknown_built : (args what at : Ref) (name : AtomId) (n : ℕ) → args.at ≡ length old.cells → what.at ≡ length old.cells + 2 → at.at ≡ length old.cells + 4 → name.at < length names
        → new ≡ with_cells old (cell.Atom name ∷ cell.Int (pos n) ∷ cell.Atom PROCEDURE ∷ cell.Comp SLASH args 2 ∷ cell.Comp EXISTENCE_ERROR what 2 ∷ [])
        → Built names old new at.at (existence_error "procedure" (indicator (name_at names name.at) n))
    unknown_built args what at name n e0 e2 e4 within e =
        let ds = cell.Atom name ∷ cell.Int (pos n) ∷ cell.Atom PROCEDURE ∷ cell.Comp SLASH args 2 ∷ cell.Comp EXISTENCE_ERROR what 2 ∷ [] in
        let cs = old.cells ++ ds in
        let slash : Term = Comp (name_at names 69) (More (Atom (name_at names name.at)) (More (Int (pos n)) NoMore)) in
        built ds at.at (existence_error "procedure" (indicator (name_at names name.at) n)) e
        (within, (tt, (start-within names table 88 (omega arith), (start-within names table 69 (omega arith), (start-within names table 82 (omega arith), tt))))) (omega (arith, e4))
        (shows-pair names old.cells ds 4 at.at EXISTENCE_ERROR what e4 refl (omega (arith, e2, e4))
        ∙ ap (λ t. Comp (name_at names 82) (More t (More (shows names cs (suc what.at)) NoMore))) (shows-at names old.cells ds 2 what.at (cell.Atom PROCEDURE) e2 refl tt)
        ∙ ap (λ t. Comp (name_at names 82) (More (Atom (name_at names 88)) (More t NoMore)))
        (shows-pair names old.cells ds 3 (suc what.at) SLASH args (omega (arith, e2)) refl (omega (arith, e0, e2))
        ∙ ap (λ t. Comp (name_at names 69) (More t (More (shows names cs (suc args.at)) NoMore))) (shows-at names old.cells ds 0 args.at (cell.Atom name) (omega (arith, e0)) refl tt)
        ∙ ap (λ t. Comp (name_at names 69) (More (Atom (name_at names name.at)) (More t NoMore))) (shows-at names old.cells ds 1 (suc args.at) (cell.Int (pos n)) (omega (arith, e0)) refl tt))
        ∙ ap (λ f. Comp f (More (Atom (name_at names 88)) (More slash NoMore))) is_existence
        ∙ ap (λ f. comp "existence_error" (Atom f ∷ slash ∷ [])) is_procedure
        ∙ ap (λ f. comp "existence_error" (atom "procedure" ∷ Comp f (More (Atom (name_at names name.at)) (More (Int (pos n)) NoMore)) ∷ [])) is_slash)

-- further cells, step by step
pub step_keeps : (c s t : Contents) (ds : List Cell) (x : Cell) → s ≡ with_cells c ds → Keeps c s → Keeps s t → Keeps c t
step_keeps c s t ds x e h k = keeps_trans c s t (omega (arith, length_cells c s ds e)) h k

-- a cell that is known
pub with_known : (s t : Contents) (x y : Cell) → t ≡ with_cell s x → x ≡ y → t ≡ with_cell s y
with_known s t x y e h = e ∙ ap (with_cell s) h

-- an error built on its kind
pub built_trans : (names : List Name) (a b c : Contents) (kind at : ℕ) (process : AtomId) (t : Term) → Built names a b kind t → Built names b c at (error (shows names b.cells kind) (name_at names process.at)) → Built names a c at (error t (name_at names process.at))
built_trans names a b c kind at process t h k = record {
  adds = adds_trans a b c h.adds k.adds;
  keeps = keeps_trans a b c (omega (arith, ap length h.adds.cells, length-append a.cells h.adds.more)) h.keeps k.keeps;
  store = k.store;
  named = k.named;
  last = k.last;
  shown = k.shown ∙ ap (λ q. error q (name_at names process.at)) h.shown;
}

-- what holds of an answer, by what held of it
pub if_ok : {A E : Type 0} (P Q : A → Type 0) → ((x : A) → P x → Q x) → (r : Result A E) → IfOk r P → IfOk r Q
if_ok P Q f (Ok x) h = f x h
if_ok P Q f (Err e) h = tt
