-- What an entry more adds to the list, kept as a number or at the side.
use Rattle.std.proofs.Common.{◌≡◌, ◌∙◌, sym, ap, ℕ, ◌+◌, ◌≤◌, List, [], ◌∷◌, ◌++◌, length, take, drop, map, append_assoc, arith, length-append}
use Rattle.std.proofs.lemmas.List.{map-append, take-append-le, drop-append-le, length-drop, length-take-le, length-map, take_all}
use Rattle.std.proofs.Math.ListN.{drop_of_length-le}
use Rattle.tp_log.specs.declared.log.Other.{Other}
use Rattle.tp_log.specs.declared.entry.Entry.TheVariants.{Bind}
use Rattle.tp_log.specs.Entries.{entries, bindings_before}

-- the numbers behind a first part, counted
left : (k b : ℕ) (ns : List ℕ) → k + b ≤ length ns → b ≤ length (drop k ns)
left k b ns h = omega (arith, length-drop k ns)

-- a binding more
pub entries-bind : (ns : List ℕ) (os : List Other) (n : ℕ) → bindings_before os ≤ length ns → entries (ns ++ n ∷ []) os ≡ entries ns os ++ Bind n ∷ []
entries-bind ns [] n h = map-append (λ (m : ℕ). Bind m) ns (n ∷ [])
entries-bind ns (o ∷ os) n h =
    let k = o.bindings in
    let within : k ≤ length ns = omega arith in
    let front : map (λ (m : ℕ). Bind m) (take k (ns ++ n ∷ [])) ≡ map (λ (m : ℕ). Bind m) (take k ns) = ap (map (λ (m : ℕ). Bind m)) (take-append-le k ns (n ∷ []) within) in
    let back : entries (drop k (ns ++ n ∷ [])) os ≡ entries (drop k ns) os ++ Bind n ∷ [] =
    ap (λ l. entries l os) (drop-append-le k ns (n ∷ []) within) ∙ entries-bind (drop k ns) os n (left k (bindings_before os) ns h) in
    ap (λ l. l ++ o.entry ∷ entries (drop k (ns ++ n ∷ [])) os) front
    ∙ ap (λ l. map (λ (m : ℕ). Bind m) (take k ns) ++ o.entry ∷ l) back
    ∙ sym (append_assoc (map (λ (m : ℕ). Bind m) (take k ns)) (o.entry ∷ entries (drop k ns) os) (Bind n ∷ []))

-- another entry more, behind all bindings
pub entries-other : (ns : List ℕ) (os : List Other) (o : Other) → bindings_before os + o.bindings ≡ length ns → entries ns (os ++ o ∷ []) ≡ entries ns os ++ o.entry ∷ []
entries-other ns [] o h =
    let all : take o.bindings ns ≡ ns = take_all o.bindings ns (omega arith) in
    let none : drop o.bindings ns ≡ [] = drop_of_length-le ns (omega arith) in
    ap (λ l. map (λ (m : ℕ). Bind m) l ++ o.entry ∷ map (λ (m : ℕ). Bind m) (drop o.bindings ns)) all
    ∙ ap (λ l. map (λ (m : ℕ). Bind m) ns ++ o.entry ∷ map (λ (m : ℕ). Bind m) l) none
entries-other ns (p ∷ os) o h =
    let k = p.bindings in
    ap (λ l. map (λ (m : ℕ). Bind m) (take k ns) ++ p.entry ∷ l) (entries-other (drop k ns) os o (omega (arith, length-drop k ns)))
    ∙ sym (append_assoc (map (λ (m : ℕ). Bind m) (take k ns)) (p.entry ∷ entries (drop k ns) os) (o.entry ∷ []))

-- the number of entries
pub length-entries : (ns : List ℕ) (os : List Other) → bindings_before os ≤ length ns → length (entries ns os) ≡ length ns + length os
length-entries ns [] h = omega (arith, length-map ns (λ (m : ℕ). Bind m))
length-entries ns (o ∷ os) h =
    let k = o.bindings in
    let front : length (map (λ (m : ℕ). Bind m) (take k ns)) ≡ k = length-map (take k ns) (λ (m : ℕ). Bind m) ∙ length-take-le k ns (omega arith) in
    omega (arith, front, length-append (map (λ (m : ℕ). Bind m) (take k ns)) (o.entry ∷ entries (drop k ns) os), length-entries (drop k ns) os (left k (bindings_before os) ns h), length-drop k ns)

-- one of the other entries more, counted
pub bindings_before-append : (os : List Other) (o : Other) → bindings_before (os ++ o ∷ []) ≡ bindings_before os + o.bindings
bindings_before-append [] o = omega arith
bindings_before-append (p ∷ os) o = omega (arith, bindings_before-append os o)
