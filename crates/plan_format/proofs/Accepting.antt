-- What parses is read, wherever it is and whatever follows. Assumes nothing.
use mathlib.Core.Path.{◌≡◌, ap, ap₂, ◌∙◌}
use mathlib.Core.Bool.{cond}
use mathlib.Core.List.{List, [], ◌∷◌, ◌++◌, append_assoc, append-nil}
use Prim.Native.Nat.{ℕ, ◌+◌}
use native.Mathlib.Omega.{arith}
use lib.ListN.{length, length-append}
use lib.Seq.{drop_at}
use Rattle.plan_format.specs.Refusal.{Refusal, given}
use Rattle.plan_format.specs.Grammar.{Check, Grammar, Source, Scan, scan, read_field, last_got, times}
use Rattle.plan_format.specs.Grammar.{count_check, read_by}
use Rattle.plan_format.proofs.Judged.{zero_not_given}
use Rattle.plan_format.proofs.Parses.{Takes, ◌⊆◌, Spelt, Nothing, Then, Holds, Parses, then_first, parsed_give}
use Rattle.plan_format.proofs.Fields.{Lawful, field_reads}
use Rattle.plan_format.proofs.Reading.{last_is, places}

counted_goes : (f : Scan → Scan) (t : Scan) (k : ℕ) → t.fault.number ≡ 0 → last_got t ≡ k →
    cond (given t.fault) t (times (last_got t) f t) ≡ times k f t
counted_goes f t k e l = ap (λ b. cond b t (times (last_got t) f t)) (zero_not_given t.fault e)
    ∙ ap (λ n. times n f t) l

module _ (S : Source) (D : Spelt) (L : Lawful S D) where
  abbrev Accepts : (f : Scan → Scan) → Takes
  Accepts f got vs ds =
      (more : List ℕ) (at : ℕ) (r : Refusal) → r.number ≡ 0 →
      f (scan (L.view vs ds ++ more) at got r) ≡ scan more (at + length (L.view vs ds)) (got ++ vs) r

  accepts_none : Nothing ⊆ Accepts (λ s. s)
  accepts_none got vs ds p = rw (p.numbers_are, p.bytes_are)
      (λ more at r e. rw (L.view_nil, append-nil) (ap (λ n. scan more n got r) (omega arith)))

  view_split : (vs vs' ds ds' more : List ℕ) →
      L.view (vs ++ vs') (ds ++ ds') ++ more ≡ L.view vs ds ++ (L.view vs' ds' ++ more)
  view_split vs vs' ds ds' more =
      ap (λ z. z ++ more) (L.view_append vs vs' ds ds') ∙ append_assoc (L.view vs ds) (L.view vs' ds') more

  accepts_then : (f g : Scan → Scan) → Then (Accepts f) (Accepts g) ⊆ Accepts (λ s. g (f s))
  accepts_then f g got vs ds p = rw (p.numbers_are, p.bytes_are) (λ more at r e.
      let x = L.view p.vs₁ p.ds₁ in
      let y = L.view p.vs₂ p.ds₂ in
      ap (λ z. g (f (scan z at got r))) (view_split p.vs₁ p.vs₂ p.ds₁ p.ds₂ more)
      ∙ ap g (p.first (y ++ more) at r e)
      ∙ p.second more (at + length x) r e
      ∙ ap₂ (λ n z. scan more n z r) (places S D L at p.vs₁ p.vs₂ p.ds₁ p.ds₂)
      (append_assoc got p.vs₁ p.vs₂))

  accepts_field : (w : ℕ) (c : ℕ → ℕ) (v : ℕ) → Holds D w (λ _ x. c x) v ⊆ Accepts (λ s. read_field S w c s)
  unfolding scan
  accepts_field w c v got vs ds h = rw h.numbers_are (λ more at r e.
      let x = L.view (v ∷ []) ds in
      let long = L.wide_is w v ds h.spelt in
      let is = L.front_is w v ds more h.spelt in
      field_reads S w c (scan (x ++ more) at got r) e (rw length-append (omega arith)) (ap c is ∙ h.passes)
      (ap (S.fits w) is ∙ L.fits_is w v ds h.spelt)
      ∙ cc (drop_at x more (S.wide w) long))

  -- a field's check may look at the numbers got
  accepts_checked : (w : ℕ) (c : Check) (v : ℕ) → Holds D w c v ⊆ Accepts (λ s. read_field S w (λ x. c s.got x) s)
  unfolding scan
  accepts_checked w c v got vs ds h = accepts_field w (λ x. c got x) v got vs ds
      (record { passes = h.passes; spelt = h.spelt; numbers_are = h.numbers_are })

  -- a count, and then as much as it says
  accepts_counted : (w : ℕ) (c : ℕ → ℕ) (k : ℕ) (f : Scan → Scan) →
      Then (Holds D w (λ _ x. c x) k) (Accepts (λ s. times k f s))
      ⊆ Accepts (λ s. let t = read_field S w c s in cond (given t.fault) t (times (last_got t) f t))
  unfolding scan
  accepts_counted w c k f got vs ds p more at r e =
      let h : Scan → Scan = λ s. read_field S w c s in
      let x = L.view p.vs₁ p.ds₁ in
      let y = L.view p.vs₂ p.ds₂ in
      let both = then_first (Holds D w (λ _ v. c v) k) (Accepts h) (Accepts (λ s. times k f s))
      (accepts_field w c k) got vs ds p in
      let s = scan (L.view vs ds ++ more) at got r in
      let is : h s ≡ scan (y ++ more) (at + length x) (got ++ (k ∷ [])) r =
      ap (λ z. h (scan (z ++ more) at got r)) (ap₂ L.view p.numbers_are p.bytes_are)
      ∙ ap (λ z. h (scan z at got r)) (view_split p.vs₁ p.vs₂ p.ds₁ p.ds₂ more)
      ∙ accepts_field w c k got p.vs₁ p.ds₁ p.first (y ++ more) at r e
      ∙ ap (λ z. scan (y ++ more) (at + length x) (got ++ z) r) p.first.numbers_are in
      counted_goes f (h s) k (ap (λ z. z.fault.number) is ∙ e)
      (ap last_got is ∙ last_is (y ++ more) got (at + length x) k r)
      ∙ accepts_then h (λ z. times k f z) got vs ds both more at r e

  pub accepts : (g : Grammar) → Parses D g ⊆ Accepts (λ s. read_by S g s)
  unfolding read_by times
  accepts =
      parsed_give D (λ g. Accepts (λ s. read_by S g s)) (λ g k. Accepts (λ s. times k (λ u. read_by S g u) s)) (record {
        of_field = accepts_checked;
        of_seq = λ g h. accepts_then (λ s. read_by S g s) (λ s. read_by S h s);
        of_counted = λ l m w g k. accepts_counted w (λ v. count_check l m v) k (λ u. read_by S g u);
        of_nothing = accepts_none;
        of_none = λ g. accepts_none;
        of_more = λ g k. accepts_then (λ s. read_by S g s) (λ s. times k (λ u. read_by S g u) s);
      })
