use Rattle.std.proofs.Common.{◌≡◌, ℕ, map, take}
use Rattle.std.specs.declared.alloc.Global.{Global}
use Rattle.std.specs.Prelude.{Vec}
use Rattle.mesh_boolean.specs.declared.files.InputFile.{InputFile}
use Rattle.mesh_run.proofs.reading.input_files.Given as goal

abbrev pub invariant-loop-index : goal.invariant-loop-index
invariant-loop-index l =
    record {
      names : map (λ (file : InputFile). file.name.now) l.files.items ≡ take l.index l.names;
      bytes : map (λ (file : InputFile). file.bytes.now) l.files.items ≡ map (λ (bytes : Vec ℕ Global). bytes.items) (take l.index l.contents);
    }
