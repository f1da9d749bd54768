use Rattle.std.proofs.Common.{◌≡◌, true}
use Rattle.tp_build.proofs.PlacesShow.Lists.{link-element, link-compound, link-variable, link-empty, link-atom}
use Rattle.tp_build.proofs.lists.link_in.Goals as goal

pub returns-in-Var : goal.returns-in-Var
returns-in-Var c h at is top = link-variable h at c.in-Var.field-0 c.args.cell top c.in-Var.is

pub returns-then-is_list_cell : goal.returns-then-is_list_cell
returns-then-is_list_cell c h at is top = link-element h at c.args.cell c.in-Comp.name c.in-Comp.first c.in-Comp.count is top c.in-Comp.is (c.is_list_cell.ensures.0 c.if-is_list_cell.true)

pub returns-else-is_list_cell : goal.returns-else-is_list_cell
returns-else-is_list_cell c h at is top = link-compound h at c.args.cell c.in-Comp.name c.in-Comp.first c.in-Comp.count is top c.in-Comp.is (λ p q. let t : c.is_list_cell.result ≡ true = c.is_list_cell.ensures.1 (p, q) in let f = c.if-is_list_cell.false in absurd (cc))

pub returns-then-name : goal.returns-then-name
returns-then-name c h at is top = link-empty h at c.args.cell c.in-Atom.name is top c.in-Atom.is c.if-name.true

pub returns-else-name : goal.returns-else-name
returns-else-name c h at is top = link-atom h at c.args.cell c.in-Atom.name is top c.in-Atom.is c.if-name.false
