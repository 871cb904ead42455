-- Files that are refused, some of them for a format that isn't read
use Rattle.std.proofs.Common.{◌≡◌, ℕ, ◌⊎◌, inl, inr, List, Result, Err, sym, ap, ◌∙◌}
use Rattle.mesh_read.specs.Surface.Surfaces.{Content}
use Rattle.mesh_file.specs.declared.file.fault.FileFault.{FileFault}
use Rattle.mesh_file.specs.declared.file.fault.FileFault.TheVariants as file
use Rattle.mesh_file.specs.File.Faults.{Fault, fault_of, with_unread}
use Rattle.mesh_file.specs.File.ReadFile.{or_unread}

-- the fault of a reading, which may be that of such a format, is that of the file
pub refused_file_is_named : (bytes : List ℕ) (reading : Result Content Fault) (fault named : FileFault) →
    (fault ≡ file.OutOfMemory) ⊎ (reading ≡ Err (fault_of fault)) → fault_of named ≡ with_unread bytes (fault_of fault) →
    (fault ≡ file.OutOfMemory → named ≡ file.OutOfMemory) →
    (named ≡ file.OutOfMemory) ⊎ (or_unread bytes reading ≡ Err (fault_of named))
refused_file_is_named bytes reading fault named (inl memory) same kept = inl (kept memory)
refused_file_is_named bytes reading fault named (inr gives) same kept =
    inr (ap (or_unread bytes) gives ∙ ap (λ (f : Fault). Err f) (sym same))
