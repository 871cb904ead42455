-- What the program prints of itself
use Rattle.std.specs.Prelude.{ℕ, List}
use Rattle.mesh_report.specs.declared.messages.TheConstants.{USAGE, VERSION}

-- the answer to `help`
abbrev pub usage_text : List ℕ
usage_text = USAGE.now

-- the answer to `--version`
abbrev pub version_text : List ℕ
version_text = VERSION.now
