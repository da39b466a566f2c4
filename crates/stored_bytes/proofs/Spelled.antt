-- A spelling after a front is the front and then the spelling; and it does not ask for the limits of counts. Assumes
-- nothing.
use mathlib.Core.Path.{◌≡◌, refl, sym, ap, ◌∙◌}
use mathlib.Core.Bool.{Bool, true, false}
use mathlib.Core.List.{List, [], ◌++◌, append_assoc, append-nil}
use Prim.Native.Nat.{ℕ, zero, suc}
use lib.ListN.{get_or}
use Rattle.plan_format.specs.Grammar.{Grammar, field, seq, counted, nothing, digits, times, Spelling, spell_field}
use Rattle.plan_format.specs.Grammar.{spell_by}
use Rattle.plan_format.specs.Form.{first_form, second_form, list_form, list_by, form_by, operation, point, plan_grammar}
use Rattle.plan_format.specs.Form.{spelled_by}

module _ (front : List ℕ) where
  abbrev after : Spelling → Spelling
  after s = record { left = s.left; made = front ++ s.made }

  field_after : (w : ℕ) (s : Spelling) → spell_field w (after s) ≡ after (spell_field w s)
  unfolding spell_field
  field_after w s = rw (append_assoc front s.made (digits w (get_or s.left 0 0)))

  times_after : (k : ℕ) (f : Spelling → Spelling) → ((s : Spelling) → f (after s) ≡ after (f s)) → (s : Spelling) →
      times k f (after s) ≡ after (times k f s)
  unfolding times
  times_after zero f h s = refl
  times_after (suc k) f h s = ap (λ (u : Spelling). times k f u) (h s) ∙ times_after k f h (f s)

  spell_after : (g : Grammar) (s : Spelling) → spell_by g (after s) ≡ after (spell_by g s)
  unfolding spell_by
  spell_after (field w c) s = field_after w s
  spell_after (seq g h) s = ap (λ (u : Spelling). spell_by h u) (spell_after g s) ∙ spell_after h (spell_by g s)
  spell_after (counted l m w g) s =
      ap (λ (u : Spelling). times (get_or s.left 0 0) (λ v. spell_by g v) u) (field_after w s)
      ∙ times_after (get_or s.left 0 0) (λ v. spell_by g v) (spell_after g) (spell_field w s)
  spell_after nothing s = refl

-- a list is spelled in a form as it is tried for it
same_spelling : (wide : Bool) (s : Spelling) → spell_by (plan_grammar (list_by wide)) s ≡
    spell_by (plan_grammar (form_by wide)) s
unfolding list_by form_by first_form second_form list_form plan_grammar operation point spell_by
same_spelling true s = refl
same_spelling false s = refl

pub spelled_after : (wide : Bool) (xs : List ℕ) →
    (spell_by (plan_grammar (list_by wide)) (record { left = xs; made = (form_by wide).lead })).made ≡
    spelled_by (form_by wide) xs
spelled_after wide xs =
    let lead = (form_by wide).lead in
    ap (λ (l : List ℕ). (spell_by (plan_grammar (list_by wide)) (record { left = xs; made = l })).made)
    (sym (append-nil lead))
    ∙ ap (λ (s : Spelling). s.made) (same_spelling wide (record { left = xs; made = lead ++ [] }))
    ∙ ap (λ (s : Spelling). s.made) (spell_after lead (plan_grammar (form_by wide)) (record { left = xs; made = [] }))
