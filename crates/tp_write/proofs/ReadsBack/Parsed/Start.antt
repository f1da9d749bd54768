-- What the table of the start keeps.
use Rattle.std.proofs.Common.{◌≡◌, ℕ, ◌<◌, ◌≤◌, Bool, true, false, cond, nat_eq, List, [], ◌∷◌, fold, Option, Some, None, refl, sym, subst, arith, codes}
use Prim.Native.String.{String}
use Rattle.tp_terms.specs.Term.{Name, names_eq}
use Rattle.tp_parse.specs.declared.table.OpType.{OpType}
use Rattle.tp_parse.specs.declared.table.OpType.TheVariants.{Xfx, Xfy, Yfx, Fy, Fx}
use Rattle.tp_parse.specs.Table.{Op, Table, changed, entry_of, with_op, Row, start_rows, empty_table, with_row, start_table}
use Rattle.tp_parse.specs.Ahead.{is_infix_alone}
use Rattle.tp_write.proofs.ReadsBack.Parsed.Ends.{IsTable, some-of}

-- each entry has a priority from 1 to 1200
abbrev AreBounded : (Name → Option Op) → Type 0
AreBounded entries = (f : Name) (o : Op) → entries f ≡ Some o → (0 < o.0) × (o.0 ≤ 1200)

record IsBounded (t : Table) : Type 0 where
  pub prefixes : AreBounded t.prefixes
  pub infixes : AreBounded t.infixes

entry_bounded : (p : ℕ) (kind : OpType) → 0 < p → p ≤ 1200 → (o : Op) → entry_of p kind ≡ Some o → (0 < o.0) × (o.0 ≤ 1200)
entry_bounded p kind above below o e = go (nat_eq p 0) e
  where
    go : (b : Bool) → cond b None (Some (p, kind)) ≡ Some o → (0 < o.0) × (o.0 ≤ 1200)
    go true e = cc
    go false e = subst (λ (z : Op). (0 < z.0) × (z.0 ≤ 1200)) (some-of e) (above, below)

changed_bounded : (name : Name) (entry : Option Op) (entries : Name → Option Op) → ((o : Op) → entry ≡ Some o → (0 < o.0) × (o.0 ≤ 1200)) → AreBounded entries → AreBounded (changed name entry entries)
changed_bounded name entry entries new old f o e = go (names_eq f name) e
  where
    go : (b : Bool) → cond b entry (entries f) ≡ Some o → (0 < o.0) × (o.0 ≤ 1200)
    go true e = new o e
    go false e = old f o e

with_op_bounded : (p : ℕ) (kind : OpType) (name : Name) (t : Table) → 0 < p → p ≤ 1200 → IsBounded t → IsBounded (with_op p kind name t)
with_op_bounded p Xfx name t above below b = record { prefixes = b.prefixes; infixes = changed_bounded name (entry_of p Xfx) t.infixes (entry_bounded p Xfx above below) b.infixes }
with_op_bounded p Xfy name t above below b = record { prefixes = b.prefixes; infixes = changed_bounded name (entry_of p Xfy) t.infixes (entry_bounded p Xfy above below) b.infixes }
with_op_bounded p Yfx name t above below b = record { prefixes = b.prefixes; infixes = changed_bounded name (entry_of p Yfx) t.infixes (entry_bounded p Yfx above below) b.infixes }
with_op_bounded p Fy name t above below b = record { prefixes = changed_bounded name (entry_of p Fy) t.prefixes (entry_bounded p Fy above below) b.prefixes; infixes = b.infixes }
with_op_bounded p Fx name t above below b = record { prefixes = changed_bounded name (entry_of p Fx) t.prefixes (entry_bounded p Fx above below) b.prefixes; infixes = b.infixes }

names_bounded : (p : ℕ) (kind : OpType) (names : List String) (t : Table) → 0 < p → p ≤ 1200 → IsBounded t → IsBounded (fold (λ t name. with_op p kind (codes name) t) t names)
names_bounded p kind [] t above below b = b
names_bounded p kind (n ∷ ns) t above below b = names_bounded p kind ns (with_op p kind (codes n) t) above below (with_op_bounded p kind (codes n) t above below b)

abbrev AreFine : List Row → Type 0
AreFine [] = Unit {0}
AreFine (r ∷ rs) = (0 < r.priority) × (r.priority ≤ 1200) × AreFine rs

rows_bounded : (rows : List Row) (t : Table) → AreFine rows → IsBounded t → IsBounded (fold with_row t rows)
rows_bounded [] t h b = b
rows_bounded (r ∷ rs) t h b = rows_bounded rs (with_row t r) h.2 (names_bounded r.priority r.kind r.names t h.0 h.1 b)

rows_fine : AreFine start_rows
rows_fine = (
  omega arith,
  omega arith,
  (
    omega arith,
    omega arith,
    (
      omega arith,
      omega arith,
      (
        omega arith,
        omega arith,
        (
          omega arith,
          omega arith,
          (
            omega arith,
            omega arith,
            (omega arith, omega arith, (omega arith, omega arith, (omega arith, omega arith, (omega arith, omega arith, (omega arith, omega arith, (omega arith, omega arith, tt)))))),
          ),
        ),
      ),
    ),
  ),
)

start_bounded : IsBounded start_table
unfolding start_table
start_bounded = rows_bounded start_rows empty_table rows_fine (record { prefixes = λ f o e. cc; infixes = λ f o e. cc })

comma_entry : start_table.infixes (codes ",") ≡ Some (1000, Xfy)
unfolding start_table
comma_entry = refl

minus_entry : is_infix_alone start_table (codes "-") ≡ false
unfolding start_table
minus_entry = refl

-- the table of the start is such a table
pub start_is_table : IsTable start_table
start_is_table = record {
  prefixes = start_bounded.prefixes;
  infixes = start_bounded.infixes;
  comma = λ o e. subst (λ (z : Op). 999 < z.0) (some-of (let s = sym comma_entry in let q : Some (1000, Xfy) ≡ Some o = cc in q)) (omega arith);
  minus = minus_entry;
}
