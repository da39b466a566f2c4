-- R77, R78: what is told and stored of the frontier sent out for an operation. Assumes nothing: these are definitions.
use Rattle.std.specs.Prelude.{List, ℕ}
use Rattle.ask_frontier.specs.declared.Sent.{Sent}
use Rattle.c_told.specs.Told.{told_of}
use Rattle.c_lent.specs.Lent.{frontier_of, Handed}

abbrev pub SentSays : Sent → (told frontier : List ℕ) → Type 0
SentSays r told frontier = Handed r.number r.place r.frontier told frontier

-- what a caller reads there
unfoldable pub sent_of : (told frontier : List ℕ) → Sent
sent_of told frontier =
    record { number = (told_of told).number; place = (told_of told).place; frontier = frontier_of frontier }
