-- A whole plan, from after its lead to its end: read without a fault exactly where it parses. Assumes nothing.
use mathlib.Core.Path.{◌≡◌, refl, sym, ap, ◌∙◌, subst}
use mathlib.Core.Bool.{cond}
use mathlib.Core.List.{List, [], ◌∷◌, ◌++◌, append-nil}
use Prim.Native.Nat.{ℕ, ◌+◌, ◌*◌}
use native.Mathlib.Omega.{arith}
use lib.Dec.{eqb}
use lib.ListN.{length, drop}
use borrow.Author.Tests.{eqb-true, eq-eqb}
use Rattle.base_lists.proofs.Tests.{by_cases, or_right}
use Rattle.plan_format.specs.Refusal.{refusal, none_given, given}
use Rattle.plan_format.specs.Grammar.{Source, Scan, scan, refused, read_by, ended}
use Rattle.plan_format.specs.Form.{Form, plan_grammar, scanned_by}
use Rattle.plan_format.proofs.Judged.{zero_not_given}
use Rattle.plan_format.proofs.Faults.{ended_began}
use Rattle.plan_format.proofs.Parses.{Spelt, Parses}
use Rattle.plan_format.proofs.Fields.{Lawful}
use Rattle.plan_format.proofs.Reading.{sound}
use Rattle.plan_format.proofs.Accepting.{accepts}

empty : (xs : List ℕ) → length xs ≡ 0 → xs ≡ []
empty [] e = refl
empty (x ∷ xs) e = absurd (omega arith)

pub ended_empty : (s : Scan) → (ended s).fault.number ≡ 0 → s.rest ≡ []
unfolding ended refused refusal scan
ended_empty s e =
    let g = zero_not_given s.fault (ended_began s e) in
    by_cases (eqb (length s.rest) 0) (λ t. empty s.rest (eqb-true (length s.rest) 0 t))
    (λ f. absurd (let z : 3 ≡ 0 = rw (g, f) at e in omega arith))

pub ended_same : (s : Scan) → s.rest ≡ [] → ended s ≡ s
unfolding ended
ended_same s e =
    ap (λ b. cond b s (refused 3 s))
    (or_right (given s.fault) (eqb (length s.rest) 0) (eq-eqb (length s.rest) 0 (ap length e)))

module _ (S : Source) (D : Spelt) (L : Lawful S D) (F : Form) (xs : List ℕ) where
  -- how far the lead reaches
  abbrev pub lead_long : ℕ
  lead_long = S.leads * length F.lead

  pub whole : (vs ds : List ℕ) → Parses D (plan_grammar F) [] vs ds → drop lead_long xs ≡ L.view vs ds →
      scanned_by S F xs ≡ scan [] (lead_long + length (L.view vs ds)) vs none_given
  unfolding scanned_by scan none_given
  whole vs ds p e =
      let s = scan (drop lead_long xs) lead_long [] none_given in
      let t = scan [] (lead_long + length (L.view vs ds)) vs none_given in
      let is : read_by S (plan_grammar F) s ≡ t =
      ap (λ z. read_by S (plan_grammar F) (scan z lead_long [] none_given)) (e ∙ sym (append-nil (L.view vs ds)))
      ∙ accepts S D L (plan_grammar F) [] vs ds p [] lead_long none_given refl in
      ap ended is ∙ ended_same t refl

  -- the numbers got parse, and they are all that there is
  pub record Whole : Type 0 where
    pub ds : List ℕ
    pub parsed : Parses D (plan_grammar F) [] (scanned_by S F xs).got ds
    pub shown : drop lead_long xs ≡ L.view (scanned_by S F xs).got ds

  pub whole_of : L.Clean (drop lead_long xs) → (scanned_by S F xs).fault.number ≡ 0 → Whole
  unfolding scanned_by scan
  whole_of c e =
      let s = scan (drop lead_long xs) lead_long [] none_given in
      let t = read_by S (plan_grammar F) s in
      let a = sound S D L (plan_grammar F) s c (ended_began t e) in
      let more : a.more ≡ [] = sym (ap (λ z. z.rest) a.result) ∙ ended_empty t e in
      let shown : drop lead_long xs ≡ L.view a.vs a.ds = a.rest_is ∙ ap (λ z. L.view a.vs a.ds ++ z) more
      ∙ append-nil (L.view a.vs a.ds) in
      let got : a.vs ≡ (scanned_by S F xs).got = sym (ap (λ z. z.got) (whole a.vs a.ds a.parsed shown)) in
      record {
        ds = a.ds;
        parsed = subst (λ z. Parses D (plan_grammar F) [] z a.ds) got a.parsed;
        shown = shown ∙ ap (λ z. L.view z a.ds) got;
      }
