use Rattle.std.proofs.Common.{◌≡◌, map, take}
use Rattle.mesh_info.specs.Page.Pages.{file_byte}
use Rattle.mesh_info.proofs.page.texts.file_bytes.Given as goal

abbrev pub invariant-loop-file : goal.invariant-loop-file
invariant-loop-file l = l.bytes.items ≡ map file_byte (take l.file-index l.files)
