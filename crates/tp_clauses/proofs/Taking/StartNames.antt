-- Atoms of a table of names, against the names of the start.
use Rattle.std.proofs.Common.{◌≡◌, ◌<◌, lit<, ◌||◌, ◌&&◌, nat_le, Bool, true, false, List, length, Option, Some, None, is_some, ℤ, pos, negsuc, slice_get, refl, ap, ◌∙◌, if◌then◌else◌}
use Rattle.std.specs.Prelude.{codes}
use Rattle.tp_terms.specs.declared.cells.AtomId.{AtomId}
use Rattle.tp_terms.specs.declared.symbols.TheConstants.{CALL, OP, LIST_CELL, EMPTY_LIST, NECK, QUERY, GRAMMAR, XFX, XFY, YFX, FY, FX}
use Rattle.tp_terms.specs.Term.{Name, names_eq}
use Rattle.tp_terms.specs.Shown.{name_at}
use Rattle.tp_terms.specs.StartNames.{start_names}
use Rattle.tp_terms.specs.Names.{IsTable}
use Rattle.tp_terms.proofs.Naming.Start.{names_eq-start, start-within}
use Rattle.tp_parse.specs.Table.{type_of}
use Rattle.tp_parse.specs.declared.table.OpType.{OpType}
use Rattle.tp_parse.specs.declared.table.OpType.TheVariants.{Xfx, Xfy, Yfx, Fy, Fx}
use Rattle.tp_clauses.specs.Directives.{allows}
use Rattle.tp_clauses.specs.Told.{is_type_atom, allows_atom}
use Rattle.tp_clauses.specs.Kinds.{is_atom}

-- an atom is one of the start exactly where its name is
pub is_atom-named : (names : List Name) → IsTable names → (a s : AtomId) (name : Name) → a.at < length names → slice_get start_names s.at ≡ Some name → names_eq (name_at names a.at) name ≡ is_atom a s
is_atom-named names t a s name h e = names_eq-start names t a.at s.at name h e

pub call-within : (names : List Name) → IsTable names → CALL.at < length names
call-within names t = start-within names t CALL.at (lit< tt)

-- ---- further names of the start

pub op : slice_get start_names OP.at ≡ Some (codes "op")
unfolding start_names
op = refl

pub list_cell : slice_get start_names LIST_CELL.at ≡ Some (codes ".")
unfolding start_names
list_cell = refl

pub empty_list : slice_get start_names EMPTY_LIST.at ≡ Some (codes "[]")
unfolding start_names
empty_list = refl

pub neck : slice_get start_names NECK.at ≡ Some (codes ":-")
unfolding start_names
neck = refl

pub query : slice_get start_names QUERY.at ≡ Some (codes "?-")
unfolding start_names
query = refl

pub grammar : slice_get start_names GRAMMAR.at ≡ Some (codes "-->")
unfolding start_names
grammar = refl

xfx : slice_get start_names XFX.at ≡ Some (codes "xfx")
unfolding start_names
xfx = refl

xfy : slice_get start_names XFY.at ≡ Some (codes "xfy")
unfolding start_names
xfy = refl

yfx : slice_get start_names YFX.at ≡ Some (codes "yfx")
unfolding start_names
yfx = refl

fy : slice_get start_names FY.at ≡ Some (codes "fy")
unfolding start_names
fy = refl

fx : slice_get start_names FX.at ≡ Some (codes "fx")
unfolding start_names
fx = refl

-- ---- the types of operators

type_by : Bool → Bool → Bool → Bool → Bool → Option OpType
type_by a b c d e = if a then Some Xfx else if b then Some Xfy else if c then Some Yfx else if d then Some Fy else if e then Some Fx else None

type_some : (a b c d e : Bool) → is_some (type_by a b c d e) ≡ ((((a || b) || c) || d) || e)
unfolding type_by
type_some true b c d e = refl
type_some false true c d e = refl
type_some false false true d e = refl
type_some false false false true e = refl
type_some false false false false true = refl
type_some false false false false false = refl

pub type-named : (names : List Name) → IsTable names → (a : AtomId) → a.at < length names → is_some (type_of (name_at names a.at)) ≡ is_type_atom a
unfolding type_by
type-named names t a h =
    let n = name_at names a.at in
    let v = is_atom-named names t a XFX (codes "xfx") h xfx in
    let w = is_atom-named names t a XFY (codes "xfy") h xfy in
    let x = is_atom-named names t a YFX (codes "yfx") h yfx in
    let y = is_atom-named names t a FY (codes "fy") h fy in
    let z = is_atom-named names t a FX (codes "fx") h fx in
    ap (λ b. is_some (type_by b (names_eq n (codes "xfy")) (names_eq n (codes "yfx")) (names_eq n (codes "fy")) (names_eq n (codes "fx")))) v
    ∙ ap (λ b. is_some (type_by (is_atom a XFX) b (names_eq n (codes "yfx")) (names_eq n (codes "fy")) (names_eq n (codes "fx")))) w
    ∙ ap (λ b. is_some (type_by (is_atom a XFX) (is_atom a XFY) b (names_eq n (codes "fy")) (names_eq n (codes "fx")))) x
    ∙ ap (λ b. is_some (type_by (is_atom a XFX) (is_atom a XFY) (is_atom a YFX) b (names_eq n (codes "fx")))) y
    ∙ ap (λ b. is_some (type_by (is_atom a XFX) (is_atom a XFY) (is_atom a YFX) (is_atom a FY) b)) z
    ∙ type_some (is_atom a XFX) (is_atom a XFY) (is_atom a YFX) (is_atom a FY) (is_atom a FX)

pub allows-named : (names : List Name) → IsTable names → (p : ℤ) (a : AtomId) → a.at < length names → allows p (name_at names a.at) ≡ allows_atom p a
allows-named names t (negsuc n) a h = refl
allows-named names t (pos p) a h = ap (λ b. nat_le p 1200 && b) (type-named names t a h)
