-- Lines that are appended
use Rattle.std.proofs.Common.{◌≡◌, ℕ, List, ◌++◌, Result, Ok, Err, OnOk, refl}
use Rattle.mesh_read.specs.declared.surface.surface.Surface.{Surface}
use Rattle.mesh_info.specs.declared.info.info.Info.{Info}
use Rattle.mesh_info.specs.Info.Infos.{IsInfo}
use Rattle.mesh_info.specs.Info.Lines.{IsFloatText, IsInfoLine, IsLine, line_text}

-- a line in which the volume has this text
pub line_said : {X E : Type 0} (name : List ℕ) (info : Info) (volume new old : List ℕ) (r : Result X E) →
    IsFloatText info.volume volume → OnOk r (new ≡ old ++ line_text name info volume)
    → OnOk r ((line : List ℕ) × IsLine name info line × (new ≡ old ++ line))
line_said name info volume new old (Ok x) is e = (line_text name info volume, record { volume = volume; is_volume = is; text_is = refl }, e)
line_said name info volume new old (Err x) is e = tt

-- the line of a surface
pub info_said : {X E : Type 0} (name : List ℕ) (s : Surface) (info : Info) (new old : List ℕ) (r : Result X E) →
    IsInfo s info → OnOk r ((line : List ℕ) × IsLine name info line × (new ≡ old ++ line))
    → OnOk r ((line : List ℕ) × IsInfoLine name s line × (new ≡ old ++ line))
info_said name s info new old (Ok x) is e = (e.0, record { info = info; is_info = is; is_line = e.1 }, e.2)
info_said name s info new old (Err x) is e = tt
