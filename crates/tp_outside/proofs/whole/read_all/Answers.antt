use Rattle.std.proofs.Common.{◌≡◌, ◌+◌, ◌++◌, length, take, arith, ap, sym, ◌∙◌, length-append}
use Rattle.std.proofs.lemmas.Grind.{common_steps}
use Rattle.std.proofs.lemmas.List.{length-take-le}
use Rattle.tp_outside.specs.Count.{given_more}
use Rattle.tp_outside.proofs.ReadsWhole.Counts.{given_more-given_more}
use Rattle.tp_outside.proofs.ReadsWhole.Fronts.{front_more}
use Rattle.tp_outside.proofs.whole.read_all.Goals as goal

pub pieces-preserved : goal.pieces-preserved
pieces-preserved g c =
    let items : c.extend_from_slice.new.self.items ≡ c.pieces.bytes.items ++ take c.in-Ok.count c.read.new.buf = grind (arith, common_steps) in
    let piece_is : length (take c.in-Ok.count c.read.new.buf) ≡ c.in-Ok.count = length-take-le c.in-Ok.count c.read.new.buf c.in-Ok.ensures.bound in
    let longer : length c.extend_from_slice.new.self.items ≡ length c.pieces.bytes.items + c.in-Ok.count = ap length items ∙ length-append c.pieces.bytes.items (take c.in-Ok.count c.read.new.buf) ∙ ap (λ n. length c.pieces.bytes.items + n) piece_is in
    let at_is : c.len.result ≡ length c.pieces.bytes.items = grind (arith, common_steps) in
    let total : g.S.Shelf.given c.read.new.self ≡ given_more (g.S.Shelf.given c.args.shelf.now) (length c.extend_from_slice.new.self.items) = c.in-Ok.ensures.given ∙ c.pieces.invariant.given_then c.in-Ok.count ∙ ap (λ n. given_more (g.S.Shelf.given c.args.shelf.now) n) (sym longer) in
    record {
      front = rw (c.in-Ok.ensures.held_stays, items) (front_more (g.S.Shelf.held c.pieces.shelf) c.args.name.now c.pieces.bytes.items c.read.new.buf c.in-Ok.count c.in-Ok.ensures.bound c.pieces.invariant.front (rw (← at_is) c.in-Ok.ensures.gives));
      within = grind (arith, common_steps, c.in-Ok.ensures.bound);
      kept = c.in-Ok.ensures.held_stays ∙ c.pieces.invariant.kept;
      faults = c.in-Ok.ensures.no_fault ∙ c.pieces.invariant.faults;
      given_most = omega (arith, total);
      given = λ _. total;
      given_then = λ n. ap (λ a. given_more a n) total ∙ given_more-given_more (g.S.Shelf.given c.args.shelf.now) (length c.extend_from_slice.new.self.items) n;
    }
