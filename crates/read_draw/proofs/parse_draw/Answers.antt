-- `read_draw::parse_draw` meets its contract.
use Rattle.read_draw.proofs.DrawLaws.{no_svg, draw_node}
use Rattle.read_draw.proofs.parse_draw.Goals as goal

pub returns-in-Missing : goal.returns-in-Missing
returns-in-Missing c = no_svg (rw c.in-Missing.is at c.string.ensures)

pub returns-in-Is : goal.returns-in-Is
returns-in-Is c = draw_node (rw c.in-Is.is at c.string.ensures).0 c.draw_end.ensures
