use Rattle.std.proofs.Common.{rules, ◌<◌, ◌^◌, length}
use Rattle.tp_view.proofs.Heaps.{unbound-top, places-top}
use Rattle.tp_view.proofs.view.ViewTerms.look.Goals as goal

pub returns : goal.returns
returns c =
    let v = c.args.self.now in
    let few : length v.store.cells < 2 ^ 64 = search rules in
    record {
      top = record {
        same = c.top.ensures.seen v.atoms;
        unbound = unbound-top v.atoms v.store c.top.result c.mark-mark.ensures.store c.top.ensures.unbound;
        stands = record { before = c.top.ensures.before; named = c.top.ensures.named (length v.atoms) c.requires.heap.named; numbered = c.top.ensures.numbered };
        places = places-top (length v.store.cells) c.top.result few c.top.ensures.before;
      };
    }
