use Rattle.std.proofs.Common.{◌++◌, codes, decimal, string_bytes}
use Rattle.mesh_file.specs.File.Reasons.{need}
use Rattle.mesh_file.proofs.TextParts.{three_parts}
use Rattle.mesh_file.proofs.file.reason_parts.put_cut_off.Goals as goal

pub returns : goal.returns
returns c =
    three_parts c.push_str.result (string_bytes c.args.text.now)
    (codes "neither ASCII STL nor binary STL: " ++ decimal c.args.length) (need c.args.facets)
    (codes "; it is cut off, export anew") (string_bytes c.put_counted.new.text) (string_bytes c.put_need.new.text)
    (string_bytes c.push_str.new.self) c.in_ok-put_counted.ensures c.in_ok-put_need.ensures c.push_str.ensures.bytes
