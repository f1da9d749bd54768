-- Acts that follow each other, and the marks that were made before them.
use Rattle.std.proofs.Common.{◌≡◌, ℕ, ◌≤◌, List, [], ◌∷◌, ◌++◌, length, take, drop, refl, ap, sym, subst, ◌∙◌, arith, append_assoc, length-append}
use Rattle.std.proofs.lemmas.List.{append-nil, take-append-le, drop-append-le, take-append-drop, take_all, drop_all, length-take-le}
use Rattle.tp_control.specs.declared.choices.Marks.{Marks}
use Rattle.tp_log.specs.declared.entry.Entry.{Entry}
use Rattle.tp_state.specs.Plain.{Plain}
use Rattle.tp_state.specs.Undo.{Parts, Covers, Allows, CanUndo, undo, undone, undo_rooms}
use Rattle.tp_state.specs.Going.{Held, Prolongs, Follows, Within, Under, marks_of, parts_of, restored, rewound}
use Rattle.tp_state.proofs.GoingBack.Logs.{undone-append, can-append, can-more, covers-same}

-- ---- lists that are prolonged

pub prolongs-same : {A : Type 0} (xs : List A) → Prolongs xs xs
prolongs-same xs = ([], sym (append-nil xs))

prolongs-then : {A : Type 0} (xs ys zs : List A) → Prolongs xs ys → Prolongs ys zs → Prolongs xs zs
prolongs-then xs ys zs h k = (h.0 ++ k.0, k.1 ∙ ap (λ l. l ++ k.0) h.1 ∙ append_assoc xs h.0 k.0)

-- the first elements stay
take-prolonged : {A : Type 0} (n : ℕ) (xs ys : List A) → n ≤ length xs → Prolongs xs ys → take n ys ≡ take n xs
take-prolonged n xs ys le h = ap (take n) h.1 ∙ take-append-le n xs h.0 le

longer : {A : Type 0} (n : ℕ) (xs ys : List A) → n ≤ length xs → Prolongs xs ys → n ≤ length ys
longer n xs ys le h = omega (arith, ap length h.1, length-append xs h.0)

-- ---- acts

-- an act that adds to what isn't taken back, and else to memory alone
pub adds : (old new : Held) → new.log ≡ old.log → parts_of new.plain ≡ parts_of old.plain → Covers old.rooms new.rooms → Prolongs old.plain.store.cells new.plain.store.cells → old.plain.store.vars ≤ new.plain.store.vars → Prolongs old.plain.frames new.plain.frames → Prolongs old.plain.events new.plain.events → Follows old new
adds old new l p r cells vars frames events = record {
  entries = [];
  log = l ∙ sym (append-nil old.log);
  back = p;
  cells = cells;
  vars = vars;
  frames = frames;
  events = events;
  safe = λ s. subst (λ es. CanUndo es (parts_of new.plain) new.rooms) (sym l) (subst (λ q. CanUndo old.log q new.rooms) (sym p) (can-more old.log (parts_of old.plain) old.rooms new.rooms r s));
}

-- an act with one entry
pub acts : (old new : Held) (e : Entry) → new.log ≡ old.log ++ e ∷ [] → undo e (parts_of new.plain) ≡ parts_of old.plain → Allows e (parts_of new.plain) new.rooms → Covers old.rooms (undo_rooms e new.rooms) → new.plain.store.cells ≡ old.plain.store.cells → old.plain.store.vars ≤ new.plain.store.vars → new.plain.frames ≡ old.plain.frames → new.plain.events ≡ old.plain.events → Follows old new
acts old new e l p allows r cells vars frames events = record {
  entries = e ∷ [];
  log = l;
  back = p;
  cells = ([], cells ∙ sym (append-nil old.plain.store.cells));
  vars = vars;
  frames = ([], frames ∙ sym (append-nil old.plain.frames));
  events = ([], events ∙ sym (append-nil old.plain.events));
  safe = λ s. subst (λ es. CanUndo es (parts_of new.plain) new.rooms) (sym l)
      (can-append old.log (e ∷ []) (parts_of new.plain) new.rooms
      (subst (λ q. CanUndo old.log q (undo_rooms e new.rooms)) (sym p) (can-more old.log (parts_of old.plain) old.rooms (undo_rooms e new.rooms) r s))
      (allows, tt));
}

-- no act
pub follows-same : (h : Held) → Follows h h
follows-same h = adds h h refl refl (covers-same h.rooms) (prolongs-same h.plain.store.cells) (omega arith) (prolongs-same h.plain.frames) (prolongs-same h.plain.events)

-- acts, and then others
pub follows-then : (a b c : Held) → Follows a b → Follows b c → Follows a c
follows-then a b c h k = record {
  entries = h.entries ++ k.entries;
  log = k.log ∙ ap (λ l. l ++ k.entries) h.log ∙ append_assoc a.log h.entries k.entries;
  back = undone-append h.entries k.entries (parts_of c.plain) ∙ ap (undone h.entries) k.back ∙ h.back;
  cells = prolongs-then a.plain.store.cells b.plain.store.cells c.plain.store.cells h.cells k.cells;
  vars = omega (arith, h.vars, k.vars);
  frames = prolongs-then a.plain.frames b.plain.frames c.plain.frames h.frames k.frames;
  events = prolongs-then a.plain.events b.plain.events c.plain.events h.events k.events;
  safe = λ s. k.safe (h.safe s);
}

-- ---- marks

-- marks that were within stay so
pub within-later : (old new : Held) (m : Marks) → Follows old new → Within m old → Within m new
within-later old new m f w = record {
  cells = longer m.store.cells old.plain.store.cells new.plain.store.cells w.cells f.cells;
  vars = omega (arith, w.vars, f.vars);
  items = longer m.items old.plain.frames new.plain.frames w.items f.frames;
  events = longer m.events old.plain.events new.plain.events w.events f.events;
  log = longer m.log old.log new.log w.log (f.entries, f.log);
}

restored-by : (p q : Plain) (a b : Parts) (m : Marks) → a ≡ b → take m.store.cells p.store.cells ≡ take m.store.cells q.store.cells → take m.items p.frames ≡ take m.items q.frames → take m.events p.events ≡ take m.events q.events → restored p a m ≡ restored q b m
restored-by p q a b m e c f v =
    ap (λ x. restored p x m) e
    ∙ ap (λ x. record (restored p b m) { store = record { cells = x; pairs = b.pairs; vars = m.store.vars } }) c
    ∙ ap (λ x. record (restored p b m) { store = record { cells = take m.store.cells q.store.cells; pairs = b.pairs; vars = m.store.vars }; frames = x }) f
    ∙ ap (λ x. record (restored q b m) { events = x }) v

-- No act changes what the contents at marks are that were made before it.
pub rewound-later : (old new : Held) (m : Marks) → Follows old new → Within m old → rewound new m ≡ rewound old m
rewound-later old new m f w =
    restored-by new.plain old.plain (undone (drop m.log new.log) (parts_of new.plain)) (undone (drop m.log old.log) (parts_of old.plain)) m
    (ap (λ es. undone es (parts_of new.plain)) (ap (drop m.log) f.log ∙ drop-append-le m.log old.log f.entries w.log)
    ∙ undone-append (drop m.log old.log) f.entries (parts_of new.plain) ∙ ap (undone (drop m.log old.log)) f.back)
    (take-prolonged m.store.cells old.plain.store.cells new.plain.store.cells w.cells f.cells)
    (take-prolonged m.items old.plain.frames new.plain.frames w.items f.frames)
    (take-prolonged m.events old.plain.events new.plain.events w.events f.events)

-- the contents at the marks of now are those of now
pub rewound-now : (h : Held) → rewound h (marks_of h) ≡ h.plain
rewound-now h = restored-by h.plain h.plain (undone (drop (length h.log) h.log) (parts_of h.plain)) (parts_of h.plain) (marks_of h)
    (ap (λ es. undone es (parts_of h.plain)) (drop_all (length h.log) h.log (omega arith))) refl refl refl
    ∙ cut
  where
    cut : restored h.plain (parts_of h.plain) (marks_of h) ≡ h.plain
    cut =
        ap (λ x. record h.plain { store = record { cells = x; pairs = h.plain.store.pairs; vars = h.plain.store.vars }; frames = take (length h.plain.frames) h.plain.frames; events = take (length h.plain.events) h.plain.events }) (take_all (length h.plain.store.cells) h.plain.store.cells (omega arith))
        ∙ ap (λ x. record h.plain { frames = x; events = take (length h.plain.events) h.plain.events }) (take_all (length h.plain.frames) h.plain.frames (omega arith))
        ∙ ap (λ x. record h.plain { events = x }) (take_all (length h.plain.events) h.plain.events (omega arith))

pub within-now : (h : Held) → Within (marks_of h) h
within-now h = record { cells = omega arith; vars = omega arith; items = omega arith; events = omega arith; log = omega arith }

-- ---- back, and back again

-- what is held after going back
pub record WentBack (old new : Held) (m : Marks) : Type 0 where
  pub plain : new.plain ≡ rewound old m
  pub log : new.log ≡ take m.log old.log

take-twice : {A : Type 0} (n m : ℕ) (xs : List A) → n ≤ m → m ≤ length xs → take n (take m xs) ≡ take n xs
take-twice n m xs le l =
    sym (take-append-le n (take m xs) (drop m xs) (omega (arith, length-take-le m xs l, le)))
    ∙ ap (take n) (take-append-drop m xs)

drop-twice : {A : Type 0} (n m : ℕ) (xs : List A) → n ≤ m → m ≤ length xs → drop n (take m xs) ++ drop m xs ≡ drop n xs
drop-twice n m xs le l =
    sym (drop-append-le n (take m xs) (drop m xs) (omega (arith, length-take-le m xs l, le)))
    ∙ ap (drop n) (take-append-drop m xs)

-- going back to earlier marks from there is going back to them at once
pub rewound-twice : (old new : Held) (m n : Marks) → WentBack old new m → Within m old → Under m n → rewound new n ≡ rewound old n
rewound-twice old new m n b w u =
    restored-by new.plain old.plain (undone (drop n.log new.log) (parts_of new.plain)) (undone (drop n.log old.log) (parts_of old.plain)) n
    (ap (λ es. undone (drop n.log es) (parts_of new.plain)) b.log
    ∙ ap (λ p. undone (drop n.log (take m.log old.log)) (parts_of p)) b.plain
    ∙ sym (undone-append (drop n.log (take m.log old.log)) (drop m.log old.log) (parts_of old.plain))
    ∙ ap (λ es. undone es (parts_of old.plain)) (drop-twice n.log m.log old.log u.log w.log))
    (ap (λ (p : Plain). take n.store.cells p.store.cells) b.plain ∙ take-twice n.store.cells m.store.cells old.plain.store.cells u.cells w.cells)
    (ap (λ (p : Plain). take n.items p.frames) b.plain ∙ take-twice n.items m.items old.plain.frames u.items w.items)
    (ap (λ (p : Plain). take n.events p.events) b.plain ∙ take-twice n.events m.events old.plain.events u.events w.events)

-- and the earlier marks are within
pub within-back : (old new : Held) (m n : Marks) → WentBack old new m → Within m old → Under m n → Within n new
within-back old new m n b w u = record {
  cells = omega (arith, u.cells, length-take-le m.store.cells old.plain.store.cells w.cells, ap (λ (p : Plain). length p.store.cells) b.plain);
  vars = omega (arith, u.vars, ap (λ (p : Plain). p.store.vars) b.plain);
  items = omega (arith, u.items, length-take-le m.items old.plain.frames w.items, ap (λ (p : Plain). length p.frames) b.plain);
  events = omega (arith, u.events, length-take-le m.events old.plain.events w.events, ap (λ (p : Plain). length p.events) b.plain);
  log = omega (arith, u.log, length-take-le m.log old.log w.log, ap length b.log);
}
