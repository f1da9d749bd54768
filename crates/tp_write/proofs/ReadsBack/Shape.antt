-- The pieces of a term begin with a piece that stands as asked, and end with those behind the term.
use Rattle.std.proofs.Common.{◌≡◌, ℕ, Bool, true, false, ℤ, pos, negsuc, List, [], ◌∷◌, ◌++◌, refl, sym, ap, ◌∙◌, codes, append_assoc}
use Rattle.tp_terms.specs.Term.{Name, Term, Terms, Var, Int, Atom, Comp, NoMore, More, names_eq}
use Rattle.tp_parse.specs.Table.{Op, Table}
use Rattle.tp_write.specs.Text.{Form, Listed, Braces, Infix, Prefix, Plain, form_of}
use Rattle.tp_write.proofs.ReadsBack.Pieces.{Stand, Directly, Spaced, Piece, Part, Parts, integer_part, atom_by, atom_part, enclosed, within_part, infix_by, infix_part, right_part, args_part, call_part, tail_part, not_list, unary_parts, binary_parts, behind_atom, parts, all_parts}

-- some pieces end with others
pub record EndsWith (ps more : List Piece) : Type 0 where
  pub front : List Piece
  pub parts : ps ≡ front ++ more

pub ends_same : (ps : List Piece) → EndsWith ps ps
ends_same ps = record { front = []; parts = refl }

pub ends_cons : (p : Piece) {ps more : List Piece} → EndsWith ps more → EndsWith (p ∷ ps) more
ends_cons p e = record { front = p ∷ e.front; parts = ap (λ l. p ∷ l) e.parts }

pub ends_skip : {ps more : List Piece} (p : Piece) → EndsWith ps (p ∷ more) → EndsWith ps more
ends_skip {ps = ps} {more = more} p e = record { front = e.front ++ p ∷ []; parts = e.parts ∙ sym (append_assoc e.front (p ∷ []) more) }

pub ends_trans : {ps qs more : List Piece} → EndsWith ps qs → EndsWith qs more → EndsWith ps more
ends_trans {ps = ps} {qs = qs} {more = more} a b = record { front = a.front ++ b.front; parts = a.parts ∙ ap (λ l. a.front ++ l) b.parts ∙ sym (append_assoc a.front b.front more) }

-- the first of some pieces, which stands so
pub record BeginsWith (s : Stand) (ps : List Piece) : Type 0 where
  pub first : Piece
  pub rest : List Piece
  pub parts : ps ≡ first ∷ rest
  pub stand : first.stand ≡ s

-- a piece begins the pieces that it is the first of
pub begins : (p : Piece) (ps : List Piece) → BeginsWith p.stand (p ∷ ps)
begins p ps = record { first = p; rest = ps; parts = refl; stand = refl }

pub record Shaped (p : Part) : Type 0 where
  pub begin : (s : Stand) (more : List Piece) → BeginsWith s (p s more)
  pub end : (s : Stand) (more : List Piece) → EndsWith (p s more) more

pub record BothShaped (ps : Parts) : Type 0 where
  pub alone : Shaped ps.alone
  pub behind : (more : List Piece) → EndsWith (ps.behind more) more

abbrev pub EachShaped : List Parts → Type 0
EachShaped [] = Unit {0}
EachShaped (p ∷ ps) = BothShaped p × EachShaped ps

enclosed_shaped : (w : Bool) (p : Part) → Shaped p → Shaped (enclosed w p)
enclosed_shaped true p h = record { begin = λ s more. begins _ _; end = λ s more. ends_cons _ (ends_skip _ (h.end Directly _)) }
enclosed_shaped false p h = h

tail_ends : (ops : Table) (t : Term) (p : Part) → Shaped p → (more : List Piece) → EndsWith (tail_part ops t p more) more
tail_ends ops t p h more = ends_cons _ ((enclosed_shaped _ p h).end Directly more)

not_list_shaped : (ops : Table) (t : Term) (p : Part) → Shaped p → BothShaped (not_list ops t p)
not_list_shaped ops t p h = record { alone = h; behind = tail_ends ops t p h }

args_end : (ops : Table) (ts : Terms) (ps : List Parts) → EachShaped ps → (more : List Piece) → EndsWith (args_part ops ts ps more) more
args_end ops NoMore ps h more = ends_same more
args_end ops (More t NoMore) [] h more = ends_same more
args_end ops (More t NoMore) (p ∷ ps) h more = (enclosed_shaped _ p.alone (h.0).alone).end Directly more
args_end ops (More t (More u us)) [] h more = ends_same more
args_end ops (More t (More u us)) (p ∷ ps) h more = ends_trans ((enclosed_shaped _ p.alone (h.0).alone).end Directly _) (ends_cons _ (args_end ops (More u us) ps h.1 more))

call_shaped : (ops : Table) (f : Name) (ts : Terms) (ps : List Parts) → EachShaped ps → Shaped (call_part ops f ts ps)
call_shaped ops f ts ps h = record { begin = λ s more. begins _ _; end = λ s more. ends_cons _ (ends_cons _ (ends_skip _ (args_end ops ts ps h _))) }

infix_ends : (b : Bool) (f : Name) (right : Part) → Shaped right → (more : List Piece) → EndsWith (infix_by b f right more) more
infix_ends true f right h more = ends_cons _ (h.end Directly more)
infix_ends false f right h more = ends_cons _ (h.end Spaced more)

infix_shaped : (ops : Table) (o : Op) (f : Name) (a : Term) (p : Part) (b : Term) (q : Part) → Shaped p → Shaped q → Shaped (infix_part ops o f a p b q)
infix_shaped ops o f a p b q h k = record {
  begin = λ s more. (enclosed_shaped _ p h).begin s _;
  end = λ s more. ends_trans ((enclosed_shaped _ p h).end s _) (infix_ends (names_eq f (codes ",")) f (right_part ops o b q) (enclosed_shaped _ q k) more);
}

unary_shaped : (ops : Table) (f : Name) (a : Term) (p : Parts) → BothShaped p → (form : Form) → BothShaped (unary_parts ops f a p form)
unary_shaped ops f a p h Braces = not_list_shaped ops (Comp f (More a NoMore)) _ (record { begin = λ s more. begins _ _; end = λ s more. ends_cons _ (ends_skip _ ((enclosed_shaped _ p.alone h.alone).end Directly _)) })
unary_shaped ops f a p h (Prefix o) = not_list_shaped ops (Comp f (More a NoMore)) _ (record { begin = λ s more. begins _ _; end = λ s more. ends_cons _ ((enclosed_shaped _ p.alone h.alone).end Spaced _) })
unary_shaped ops f a p h Listed = not_list_shaped ops (Comp f (More a NoMore)) _ (call_shaped ops f (More a NoMore) (p ∷ []) (h, tt))
unary_shaped ops f a p h (Infix o) = not_list_shaped ops (Comp f (More a NoMore)) _ (call_shaped ops f (More a NoMore) (p ∷ []) (h, tt))
unary_shaped ops f a p h Plain = not_list_shaped ops (Comp f (More a NoMore)) _ (call_shaped ops f (More a NoMore) (p ∷ []) (h, tt))

binary_shaped : (ops : Table) (f : Name) (a : Term) (p : Parts) (b : Term) (q : Parts) → BothShaped p → BothShaped q → (form : Form) → BothShaped (binary_parts ops f a p b q form)
binary_shaped ops f a p b q h k Listed = record {
  alone = record {
    begin = λ s more. begins _ _;
    end = λ s more. ends_cons _ (ends_trans ((enclosed_shaped _ p.alone h.alone).end Directly _) (ends_skip _ (k.behind _)));
  };
  behind = λ more. ends_cons _ (ends_trans ((enclosed_shaped _ p.alone h.alone).end Directly _) (k.behind more));
}
binary_shaped ops f a p b q h k (Infix o) = not_list_shaped ops (Comp f (More a (More b NoMore))) _ (infix_shaped ops o f a p.alone b q.alone h.alone k.alone)
binary_shaped ops f a p b q h k Braces = not_list_shaped ops (Comp f (More a (More b NoMore))) _ (call_shaped ops f (More a (More b NoMore)) (p ∷ q ∷ []) (h, (k, tt)))
binary_shaped ops f a p b q h k (Prefix o) = not_list_shaped ops (Comp f (More a (More b NoMore))) _ (call_shaped ops f (More a (More b NoMore)) (p ∷ q ∷ []) (h, (k, tt)))
binary_shaped ops f a p b q h k Plain = not_list_shaped ops (Comp f (More a (More b NoMore))) _ (call_shaped ops f (More a (More b NoMore)) (p ∷ q ∷ []) (h, (k, tt)))

atom_shaped : (x y : Bool) (a : Name) → Shaped (atom_by x y a)
atom_shaped true y a = record { begin = λ s more. begins _ _; end = λ s more. ends_cons _ (ends_cons _ (ends_same more)) }
atom_shaped false true a = record { begin = λ s more. begins _ _; end = λ s more. ends_cons _ (ends_cons _ (ends_same more)) }
atom_shaped false false a = record { begin = λ s more. begins _ _; end = λ s more. ends_cons _ (ends_same more) }

behind_atom_ends : (ops : Table) (b : Bool) (a : Name) (more : List Piece) → EndsWith (behind_atom ops b a more) more
behind_atom_ends ops true a more = ends_same more
behind_atom_ends ops false a more = tail_ends ops (Atom a) (atom_part a) (atom_shaped _ _ a) more

integer_shaped : (z : ℤ) → Shaped (integer_part z)
integer_shaped (pos n) = record { begin = λ s more. begins _ _; end = λ s more. ends_cons _ (ends_same more) }
integer_shaped (negsuc n) = record { begin = λ s more. begins _ _; end = λ s more. ends_cons _ (ends_cons _ (ends_same more)) }

mutual
  unfolding parts

  pub shaped : (ops : Table) (t : Term) → BothShaped (parts ops t)
  shaped ops (Var v) = not_list_shaped ops (Var v) _ (record { begin = λ s more. begins _ _; end = λ s more. ends_cons _ (ends_same more) })
  shaped ops (Int z) = not_list_shaped ops (Int z) (integer_part z) (integer_shaped z)
  shaped ops (Atom a) = record { alone = atom_shaped _ _ a; behind = behind_atom_ends ops _ a }
  shaped ops (Comp f NoMore) = not_list_shaped ops (Comp f NoMore) _ (call_shaped ops f NoMore [] tt)
  shaped ops (Comp f (More a NoMore)) = unary_shaped ops f a (parts ops a) (shaped ops a) (form_of ops (Comp f (More a NoMore)))
  shaped ops (Comp f (More a (More b NoMore))) = binary_shaped ops f a (parts ops a) b (parts ops b) (shaped ops a) (shaped ops b) (form_of ops (Comp f (More a (More b NoMore))))
  shaped ops (Comp f (More a (More b (More c ts)))) =
      let args = More a (More b (More c ts)) in
      let each : EachShaped (all_parts ops args) = (shaped ops a, (shaped ops b, (shaped ops c, all_shaped ops ts))) in
      not_list_shaped ops (Comp f args) _ (call_shaped ops f args (all_parts ops args) each)

  pub all_shaped : (ops : Table) (ts : Terms) → EachShaped (all_parts ops ts)
  all_shaped ops NoMore = tt
  all_shaped ops (More t ts) = (shaped ops t, all_shaped ops ts)

-- a term within a priority
pub within_shaped : (ops : Table) (max : ℕ) (t : Term) → Shaped (within_part ops max t (parts ops t).alone)
within_shaped ops max t = enclosed_shaped _ (parts ops t).alone (shaped ops t).alone
