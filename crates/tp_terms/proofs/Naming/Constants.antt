-- Names of the start by the constants of `symbols`. With `start-name_at` and `names_eq-start` they
-- say what an atom of any table is.
use Rattle.std.proofs.Common.{◌≡◌, Some, slice_get, refl, codes}
use Rattle.tp_terms.specs.declared.symbols.TheConstants.{LIST_CELL, EMPTY_LIST, BRACES, TRUE, FAIL, CONJUNCTION, DISJUNCTION, IF_THEN, CALL, CALLABLE, NECK, GRAMMAR, QUERY, SLASH, OP, XFX, XFY, YFX, FY, FX, ERROR, INSTANTIATION_ERROR, TYPE_ERROR, EXISTENCE_ERROR, PROCEDURE, MAIN}
use Rattle.tp_terms.specs.StartNames.{start_names}

pub start-list_cell : slice_get start_names LIST_CELL.at ≡ Some (codes ".")
unfolding start_names
start-list_cell = refl

pub start-empty_list : slice_get start_names EMPTY_LIST.at ≡ Some (codes "[]")
unfolding start_names
start-empty_list = refl

pub start-braces : slice_get start_names BRACES.at ≡ Some (codes "{}")
unfolding start_names
start-braces = refl

pub start-true : slice_get start_names TRUE.at ≡ Some (codes "true")
unfolding start_names
start-true = refl

pub start-fail : slice_get start_names FAIL.at ≡ Some (codes "fail")
unfolding start_names
start-fail = refl

pub start-conjunction : slice_get start_names CONJUNCTION.at ≡ Some (codes ",")
unfolding start_names
start-conjunction = refl

pub start-disjunction : slice_get start_names DISJUNCTION.at ≡ Some (codes ";")
unfolding start_names
start-disjunction = refl

pub start-if_then : slice_get start_names IF_THEN.at ≡ Some (codes "->")
unfolding start_names
start-if_then = refl

pub start-call : slice_get start_names CALL.at ≡ Some (codes "call")
unfolding start_names
start-call = refl

pub start-callable : slice_get start_names CALLABLE.at ≡ Some (codes "callable")
unfolding start_names
start-callable = refl

pub start-neck : slice_get start_names NECK.at ≡ Some (codes ":-")
unfolding start_names
start-neck = refl

pub start-grammar : slice_get start_names GRAMMAR.at ≡ Some (codes "-->")
unfolding start_names
start-grammar = refl

pub start-query : slice_get start_names QUERY.at ≡ Some (codes "?-")
unfolding start_names
start-query = refl

pub start-slash : slice_get start_names SLASH.at ≡ Some (codes "/")
unfolding start_names
start-slash = refl

pub start-op : slice_get start_names OP.at ≡ Some (codes "op")
unfolding start_names
start-op = refl

pub start-xfx : slice_get start_names XFX.at ≡ Some (codes "xfx")
unfolding start_names
start-xfx = refl

pub start-xfy : slice_get start_names XFY.at ≡ Some (codes "xfy")
unfolding start_names
start-xfy = refl

pub start-yfx : slice_get start_names YFX.at ≡ Some (codes "yfx")
unfolding start_names
start-yfx = refl

pub start-fy : slice_get start_names FY.at ≡ Some (codes "fy")
unfolding start_names
start-fy = refl

pub start-fx : slice_get start_names FX.at ≡ Some (codes "fx")
unfolding start_names
start-fx = refl

pub start-error : slice_get start_names ERROR.at ≡ Some (codes "error")
unfolding start_names
start-error = refl

pub start-instantiation_error : slice_get start_names INSTANTIATION_ERROR.at ≡ Some (codes "instantiation_error")
unfolding start_names
start-instantiation_error = refl

pub start-type_error : slice_get start_names TYPE_ERROR.at ≡ Some (codes "type_error")
unfolding start_names
start-type_error = refl

pub start-existence_error : slice_get start_names EXISTENCE_ERROR.at ≡ Some (codes "existence_error")
unfolding start_names
start-existence_error = refl

pub start-procedure : slice_get start_names PROCEDURE.at ≡ Some (codes "procedure")
unfolding start_names
start-procedure = refl

pub start-main : slice_get start_names MAIN.at ≡ Some (codes "main")
unfolding start_names
start-main = refl
