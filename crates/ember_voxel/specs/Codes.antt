-- A box of one value is stored as its box and the value
use Rattle.std.specs.Prelude.{Bool, List, refl}
use Rattle.std.specs.Coded.{Coded, code_by, coded×, coded_bool, coded_list}
use Rattle.ember_box.specs.Boxes.{Cell, cell_code}
use Rattle.ember_voxel.specs.declared.fill.Fill.{Fill}

-- how one box is stored
abbrev pub fill_code : Coded Fill
fill_code = code_by (Cell × Bool) (coded× cell_code coded_bool) (λ f. (f.cell, f.bit)) (λ p. record {
  cell = p.0;
  bit = p.1;
}) (λ _. refl)

-- how a list of them is stored
abbrev pub fills_code : Coded (List Fill)
fills_code = coded_list fill_code
