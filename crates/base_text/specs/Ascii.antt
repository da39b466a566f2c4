-- A quoted text as the list of its bytes. Assumes nothing: this is a definition.
use Rattle.std.specs.Prelude.{List, [], ◌∷◌, ℕ}
use Prim.Native.Char.{code}
use Prim.Native.String.{String, [] as ended, ◌∷◌ as ◌then◌}

-- the codes of its characters, which are bytes where all are ASCII
abbrev pub ascii : String → List ℕ
ascii ended = []
ascii (c then s) = code c ∷ ascii s
