use Rattle.std.proofs.Common.{Global, map, string_bytes}
use Rattle.mesh_words.proofs.Spellings.{spelled_export, spelled_snap, spelled_view, spelled_words}
use Rattle.mesh_words.proofs.reading.read_words.Goals as goal

pub returns-clause-spelled : goal.returns-clause-spelled
returns-clause-spelled c = λ o is h e. spelled_words (map (string_bytes {Z = Global}) c.args.words.now) c.read.result o is c.read.ensures.command h e

pub returns-clause-spelled_view : goal.returns-clause-spelled_view
returns-clause-spelled_view c = λ is h e. spelled_view (map (string_bytes {Z = Global}) c.args.words.now) c.read.result is c.read.ensures.command h e

pub returns-clause-spelled_snap : goal.returns-clause-spelled_snap
returns-clause-spelled_snap c = λ is h e. spelled_snap (map (string_bytes {Z = Global}) c.args.words.now) c.read.result is c.read.ensures.command h e

pub returns-clause-spelled_export : goal.returns-clause-spelled_export
returns-clause-spelled_export c = λ is h e. spelled_export (map (string_bytes {Z = Global}) c.args.words.now) c.read.result is c.read.ensures.command h e
