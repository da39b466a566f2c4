-- R37 to R52: the numbers of refusals, a list for each class, and what each entry can give, made of these lists.
-- Assumes nothing: these are definitions.
use Rattle.std.specs.Prelude.{◌≡◌, true, List, [], ◌∷◌, ◌++◌, ℕ}
use Rattle.base_lists.specs.Lists.{member}

-- the number is one of those listed
abbrev pub OneOf : (numbers : List ℕ) → (n : ℕ) → Type 0
OneOf ns n = member n ns ≡ true

-- the number is 0, which is no refusal, or one of those listed
abbrev pub NoneOr : (numbers : List ℕ) → (n : ℕ) → Type 0
NoneOr ns n = OneOf (0 ∷ ns) n

-- ---- classes
-- R38 to R42, R18, of a reading: a field cut short, a count, input left over, a position in no section, an axis twice,
-- a wait for 0
abbrev pub reading_numbers : List ℕ
reading_numbers = 1 ∷ 2 ∷ 3 ∷ 4 ∷ 5 ∷ 16 ∷ []

-- R44 and R45, of signals and waits: not rising, above the highest; R43: 6 is never given
abbrev pub rule_numbers : List ℕ
rule_numbers = 7 ∷ 8 ∷ []

-- R46, of lent room
abbrev pub room_numbers : List ℕ
room_numbers = 9 ∷ []

-- R47, R94, R48, of the order: stuck, a signal out of turn, a broken mark
abbrev pub order_numbers : List ℕ
order_numbers = 10 ∷ 17 ∷ 11 ∷ []

-- R49, of the reuse question: no such queue, no such buffer
abbrev pub reuse_numbers : List ℕ
reuse_numbers = 12 ∷ 13 ∷ []

-- R52, R51, of the question for a frontier: no such operation, no such capacity
abbrev pub sent_numbers : List ℕ
sent_numbers = 21 ∷ 15 ∷ []

-- of the question on a recorded trace: too little room for the state, a trace that is badly formed
abbrev pub trace_numbers : List ℕ
trace_numbers = room_numbers ++ (22 ∷ [])

-- R90, of the question for a wait: those of the reuse question, and no signal that frees
abbrev pub suggest_numbers : List ℕ
suggest_numbers = reuse_numbers ++ (19 ∷ [])

-- ---- entries: what each can give besides 0; R55: there are no other reasons
abbrev pub reader_gives : List ℕ
reader_gives = reading_numbers ++ room_numbers

abbrev pub writer_gives : List ℕ
writer_gives = reading_numbers ++ room_numbers

-- what a stored plan is refused for, whatever room is lent
abbrev pub plan_gives : List ℕ
plan_gives = reading_numbers ++ rule_numbers

-- R56: what leaves table and list as they were
abbrev pub untouched_numbers : List ℕ
untouched_numbers = plan_gives ++ room_numbers

abbrev pub check_gives : List ℕ
check_gives = untouched_numbers ++ order_numbers

abbrev pub reuse_gives : List ℕ
reuse_gives = check_gives ++ reuse_numbers

abbrev pub sent_gives : List ℕ
sent_gives = check_gives ++ sent_numbers

abbrev pub trace_gives : List ℕ
trace_gives = check_gives ++ trace_numbers

abbrev pub suggest_gives : List ℕ
suggest_gives = check_gives ++ suggest_numbers
