-- The running process goes on with other items in front of those behind its first one.
use Rattle.std.proofs.Common.{◌≡◌, ◌+◌, ◌<◌, List, [], ◌∷◌, ◌++◌, map, length, Option, IfSome, refl, ap, sym, subst, ◌∙◌}
use Rattle.std.specs.List.{AllByRecursion}
use Rattle.tp_terms.specs.declared.world.ItemId.{ItemId}
use Rattle.tp_terms.specs.Term.{Name}
use Rattle.tp_terms.proofs.Naming.Tables.{Grows-same}
use Rattle.tp_meaning.specs.World.{with_items, stamped}
use Rattle.tp_meaning.specs.Turn.{going}
use Rattle.tp_store.specs.Contents.{Contents}
use Rattle.tp_control.specs.declared.frames.Item.{Item}
use Rattle.tp_control.specs.Lists.{items_at}
use Rattle.tp_state.specs.declared.state.State.{State}
use Rattle.tp_state.specs.Going.{Follows}
use Rattle.tp_state.specs.State.{plain_of, held_of}
use Rattle.tp_state.specs.Plain.{Plain, item_of}
use Rattle.tp_state.specs.Stands.{ItemStands, PlainStands}
use Rattle.tp_state.specs.Acts.{resting}
use Rattle.tp_machine.specs.declared.machine.Machine.{Machine}
use Rattle.tp_machine.specs.declared.task.Task.{Task}
use Rattle.tp_machine.specs.Conditions.{pushes}
use Rattle.tp_machine.specs.Machine.{IsMachine, world_in}
use Rattle.tp_machine.specs.Meets.{Meets}
use Rattle.tp_machine.specs.Goes.{Goes}
use Rattle.tp_machine.proofs.Worlds.Items.{OtherItems, other-stands, other-world, other-rest, other-push, pushed-items}
use Rattle.tp_machine.proofs.Step.First.{rest_in, turn_in}

other-pushes : (names : List Name) (p : Plain) (rest : Option ItemId) (is : List Item) → PlainStands names p → IfSome rest (λ i. i.at < length p.frames) → AllByRecursion (ItemStands (length p.store.cells)) is → OtherItems names p (pushes is (resting rest p))
other-pushes names p rest [] s w h = other-rest names p rest w
other-pushes names p rest (i ∷ is) s w h = other-push names p (pushes is (resting rest p)) i s (other-pushes names p rest is s w h.1) h.0

pushes-items : (is : List Item) (q : Plain) → items_at (pushes is q).frames (pushes is q).items ≡ is ++ items_at q.frames q.items
pushes-items [] q = refl
pushes-items (i ∷ is) q = pushed-items i (pushes is q) ∙ ap (λ l. i ∷ l) (pushes-items is q)

map-split : {A B : Type 0} (f : A → B) (xs ys : List A) → map f (xs ++ ys) ≡ map f xs ++ map f ys
map-split f [] ys = refl
map-split f (x ∷ xs) ys = ap (λ l. f x ∷ l) (map-split f xs ys)

-- where the machine goes on to, and the world that it stands for then
pub record Arrives (m : Machine) (t : Task) (is : List Item) (s : State) : Type 0 where
  pub stands : PlainStands m.atoms (plain_of s)
  pub goes : Goes m (record m { state = s; stamp = m.stamp + 1 })
  pub world : world_in (record m { state = s; stamp = m.stamp + 1 }) ≡ going (turn_in m t.process t.rest) (map (item_of m.atoms m.state.store) is ++ rest_in m t.rest)

pub arrives : (m : Machine) (t : Task) (is : List Item) (s : State) → IsMachine m → Meets m t → AllByRecursion (ItemStands (length m.state.store.cells)) is → Follows (held_of m.state) (held_of s) → plain_of s ≡ pushes is (resting t.rest (plain_of m.state)) → Arrives m t is s
arrives m t is s i h stand f e =
    let p = plain_of m.state in
    let o = subst (OtherItems m.atoms p) (sym e) (other-pushes m.atoms p t.rest is i.stands h.rest stand) in
    let st = other-stands m.atoms p (plain_of s) i.stands o in
    record {
      stands = st;
      goes = record { same = refl; names = Grows-same m.atoms; table = i.program.table; stands = st; follows = f; stamp = refl };
      world =
          other-world m.atoms p (plain_of s) t.process m.stamp i.stands o h.running
          ∙ ap (λ (c : Contents). with_items t.process (map (item_of m.atoms c) (items_at (plain_of s).frames (plain_of s).items)) (stamped (world_in m))) (ap (λ (q : Plain). q.store) o.is)
          ∙ ap (λ l. with_items t.process (map (item_of m.atoms m.state.store) l) (stamped (world_in m)))
          (ap (λ (q : Plain). items_at q.frames q.items) e ∙ pushes-items is (resting t.rest p))
          ∙ ap (λ l. with_items t.process l (stamped (world_in m))) (map-split (item_of m.atoms m.state.store) is (items_at m.state.frames t.rest));
    }
