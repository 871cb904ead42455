use Rattle.std.proofs.Common.{◌∙◌}
use mir.Syntax.{w32}
use Rattle.ember_algebra.proofs.Exact.{input, stored, ◌&◌, done, exact}
use Rattle.ember_trace.proofs.path_limits.limits_of.Goals as goal

pub returns : goal.returns
returns g c =
    let a = c.floor_in_root-first.ensures in let b = c.floor_in_root-second.ensures in
    let s = c.farthest-farthest_second.ensures in let m = c.farthest-farthest_main.ensures in let o = c.coordinate-start.ensures in
    record {
      axes = c.requires;
      first_index = c.index_of-first_index.ensures.value;
      second_index = c.index_of-second_index.ensures.value;
      main_index = c.index_of-main_index.ensures.value;
      start = exact (o.small & done) (stored w32 (input 0)) tt ∙ o.value;
      first = exact (a.small & done) (stored w32 (input 0)) tt ∙ a.value;
      second = exact (b.small & done) (stored w32 (input 0)) tt ∙ b.value;
      farthest_second = exact (s.small & done) (stored w32 (input 0)) tt ∙ s.value;
      farthest_main = exact (m.small & done) (stored w32 (input 0)) tt ∙ m.value;
    }
