-- The version of the interface, which the bindings compare with their own. Assumes nothing.
use Rattle.std.specs.Prelude.{ℕ, ◌+◌, ◌*◌}

-- major.minor.patch as one number
abbrev pub version_number : ℕ → ℕ → ℕ → ℕ
version_number major minor patch = (major * 1000 + minor) * 1000 + patch

abbrev pub version : ℕ
version = version_number 0 10 0
