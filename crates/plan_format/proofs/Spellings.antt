-- The spelling of what parses: the very bytes of the parse, all below 256. Assumes nothing.
use mathlib.Core.Path.{◌≡◌, refl, ap, ◌∙◌}
use mathlib.Core.Bool.{true}
use mathlib.Core.List.{List, ◌++◌, append_assoc, append-nil}
use Prim.Native.Nat.{ℕ}
use lib.ListN.{get_or}
use Rattle.base_lists.specs.Lists.{all}
use Rattle.plan_format.specs.Grammar.{Check, Grammar, times, count_check, Spelling, spell_field, spell_by}
use Rattle.plan_format.specs.Stored.{all_bytes}
use Rattle.plan_format.proofs.Bytes.{digits_bytes, bytes_append}
use Rattle.plan_format.proofs.Parses.{Takes, ◌⊆◌, Exact, Nothing, Then, Holds, Parses, then_first, parsed_give}

-- what is in front is spelled, and the rest is left
abbrev Spells : (f : Spelling → Spelling) → Takes
Spells f got vs ds = (more made : List ℕ) →
    f (record { left = vs ++ more; made = made }) ≡ record { left = more; made = made ++ ds }

spells_none : Nothing ⊆ Spells (λ s. s)
spells_none got vs ds p = rw (p.numbers_are, p.bytes_are) (λ more made. rw append-nil)

spells_then : (f g : Spelling → Spelling) → Then (Spells f) (Spells g) ⊆ Spells (λ s. g (f s))
spells_then f g got vs ds p =
    rw (p.numbers_are, p.bytes_are)
    (λ more made.
    rw append_assoc (ap g (p.first (p.vs₂ ++ more) made) ∙ p.second more (made ++ p.ds₁) ∙ rw append_assoc))

spells_field : (w : ℕ) (c : Check) (v : ℕ) → Holds Exact w c v ⊆ Spells (λ s. spell_field w s)
unfolding spell_field
spells_field w c v got vs ds h = rw (h.numbers_are, h.spelt.bytes_are) (λ more made. refl)

-- the number in front says how many follow
spells_counted : (w : ℕ) (c : Check) (k : ℕ) (f : Spelling → Spelling) →
    Then (Holds Exact w c k) (Spells (λ s. times k f s)) ⊆ Spells (λ s. times (get_or s.left 0 0) f (spell_field w s))
spells_counted w c k f got vs ds p more made =
    let front : get_or (vs ++ more) 0 0 ≡ k = rw (p.numbers_are, p.first.numbers_are) in
    ap (λ n. times n f (spell_field w (record { left = vs ++ more; made = made }))) front
    ∙ spells_then (λ s. spell_field w s) (λ s. times k f s) got vs ds
    (then_first (Holds Exact w c k) (Spells (λ s. spell_field w s)) (Spells (λ s. times k f s))
    (spells_field w c k) got vs ds p) more made

pub spells : (g : Grammar) → Parses Exact g ⊆ Spells (λ s. spell_by g s)
unfolding spell_by times
spells =
    parsed_give Exact (λ g. Spells (λ s. spell_by g s)) (λ g k. Spells (λ s. times k (λ u. spell_by g u) s)) (record {
      of_field = spells_field;
      of_seq = λ g h. spells_then (λ s. spell_by g s) (λ s. spell_by h s);
      of_counted = λ l m w g k. spells_counted w (λ _ v. count_check l m v) k (λ u. spell_by g u);
      of_nothing = spells_none;
      of_none = λ g. spells_none;
      of_more = λ g k. spells_then (λ s. spell_by g s) (λ s. times k (λ u. spell_by g u) s);
    })

-- ---- what is spelled is bytes
abbrev Bytes : Takes
Bytes got vs ds = all_bytes ds ≡ true

none_bytes : Nothing ⊆ Bytes
unfolding all_bytes all
none_bytes got vs ds p = rw p.bytes_are

then_bytes : Then Bytes Bytes ⊆ Bytes
then_bytes got vs ds p = rw p.bytes_are (bytes_append p.ds₁ p.ds₂ p.first p.second)

field_bytes : (w : ℕ) (c : Check) (v : ℕ) → Holds Exact w c v ⊆ Bytes
field_bytes w c v got vs ds h = rw h.spelt.bytes_are (digits_bytes w v)

pub parsed_bytes : (g : Grammar) → Parses Exact g ⊆ Bytes
parsed_bytes = parsed_give Exact (λ _. Bytes) (λ _ _. Bytes) (record {
  of_field = field_bytes;
  of_seq = λ g h. then_bytes;
  of_counted = λ l m w g k got vs ds p. then_bytes got vs ds
      (then_first (Holds Exact w (λ _ v. count_check l m v) k) Bytes Bytes
      (field_bytes w (λ _ v. count_check l m v) k) got vs ds p);
  of_nothing = none_bytes;
  of_none = λ g. none_bytes;
  of_more = λ g k. then_bytes;
})
