-- A reading without a fault has taken what parses, and nothing else. Assumes nothing.
use mathlib.Core.Path.{◌≡◌, refl, sym, ap, ap₂, ◌∙◌, subst}
use mathlib.Core.Bool.{cond}
use mathlib.Core.List.{List, [], ◌∷◌, ◌++◌, append_assoc, append-nil}
use Prim.Native.Nat.{ℕ, zero, suc, ◌+◌}
use native.Mathlib.Omega.{arith}
use lib.ListN.{length, drop, length-append, take-append-drop}
use lib.Seq.{drop-append_seam}
use Rattle.base_lists.proofs.Tests.{by_cases, clash}
use Rattle.plan_format.specs.Refusal.{Refusal, given}
use Rattle.plan_format.specs.Grammar.{Check, Grammar, field, seq, counted, nothing, Source, Scan, scan}
use Rattle.plan_format.specs.Grammar.{read_field, last_got, times, count_check, read_by}
use Rattle.plan_format.proofs.Judged.{zero_not_given, not_given_zero}
use Rattle.plan_format.proofs.Faults.{read_began, times_began}
use Rattle.plan_format.proofs.Seams.{last_snoc}
use Rattle.plan_format.proofs.Parses.{Takes, Spelt, Nothing, Then, Many, Holds, Field, Counted, Parses}
use Rattle.plan_format.proofs.Fields.{Lawful, field_done}

-- a count read without a fault: the entries follow
go_on : (t u : Scan) → (cond (given t.fault) t u).fault.number ≡ 0 →
    (t.fault.number ≡ 0) × (cond (given t.fault) t u ≡ u)
go_on t u e =
    by_cases (given t.fault)
    (λ y. clash (given t.fault) y (zero_not_given t.fault (subst (λ b. (cond b t u).fault.number ≡ 0) y e)))
    (λ n. (not_given_zero t.fault n, ap (λ b. cond b t u) n))

pub last_is : (r got : List ℕ) (p v : ℕ) (f : Refusal) → last_got (scan r p (got ++ (v ∷ [])) f) ≡ v
unfolding last_got scan
last_is r got p v f = last_snoc got v

module _ (S : Source) (D : Spelt) (L : Lawful S D) where
  -- from s to t a reading takes what P takes
  pub record Took (P : Takes) (s t : Scan) : Type 0 where
    pub vs : List ℕ
    pub ds : List ℕ
    pub more : List ℕ
    pub begun : s.fault.number ≡ 0
    pub parsed : P s.got vs ds
    pub rest_is : s.rest ≡ L.view vs ds ++ more
    pub result : t ≡ scan more (s.place + length (L.view vs ds)) (s.got ++ vs) s.fault

  took_as : (P Q : Takes) (s t : Scan) (a : Took P s t) → Q s.got a.vs a.ds → Took Q s t
  took_as P Q s t a q =
      record {
        vs = a.vs;
        ds = a.ds;
        more = a.more;
        begun = a.begun;
        parsed = q;
        rest_is = a.rest_is;
        result = a.result;
      }

  -- ---- nothing; one thing after another
  took_none : (s : Scan) → s.fault.number ≡ 0 → Took Nothing s s
  unfolding scan
  took_none s e = record {
    vs = [];
    ds = [];
    more = s.rest;
    begun = e;
    parsed = record { numbers_are = refl; bytes_are = refl };
    rest_is = ap (λ z. z ++ s.rest) (sym L.view_nil);
    result = ap₂ (λ p g. scan s.rest p g s.fault) (rw L.view_nil (omega arith)) (sym (append-nil s.got));
  }

  pub places : (p : ℕ) (vs vs' ds ds' : List ℕ) →
      p + length (L.view vs ds) + length (L.view vs' ds') ≡ p + length (L.view (vs ++ vs') (ds ++ ds'))
  places p vs vs' ds ds' = rw (L.view_append vs vs' ds ds', length-append) (omega arith)

  joined : (t : Scan) (more more' got vs vs' ds ds' : List ℕ) (p : ℕ) (f : Refusal) →
      t ≡ scan more (p + length (L.view vs ds)) (got ++ vs) f →
      scan more' (t.place + length (L.view vs' ds')) (t.got ++ vs') t.fault ≡
      scan more' (p + length (L.view (vs ++ vs') (ds ++ ds')))
      (got ++ (vs ++ vs')) f
  unfolding scan
  joined t more more' got vs vs' ds ds' p f e =
      ap (λ z. scan more' (z.place + length (L.view vs' ds')) (z.got ++ vs') z.fault) e
      ∙ ap₂ (λ q g. scan more' q g f) (places p vs vs' ds ds') (append_assoc got vs vs')

  took_then : (P Q : Takes) (s t u : Scan) → Took P s t → Took Q t u → Took (Then P Q) s u
  unfolding scan
  took_then P Q s t u a b =
      let x = L.view a.vs a.ds in
      let y = L.view b.vs b.ds in
      let got : t.got ≡ s.got ++ a.vs = ap (λ z. z.got) a.result in
      let rest : t.rest ≡ a.more = ap (λ z. z.rest) a.result in
      record {
        vs = a.vs ++ b.vs;
        ds = a.ds ++ b.ds;
        more = b.more;
        begun = a.begun;
        parsed = record {
          vs₁ = a.vs;
          vs₂ = b.vs;
          ds₁ = a.ds;
          ds₂ = b.ds;
          first = a.parsed;
          second = subst (λ z. Q z b.vs b.ds) got b.parsed;
          numbers_are = refl;
          bytes_are = refl;
        };
        rest_is = a.rest_is ∙ ap (λ z. x ++ z) (sym rest ∙ b.rest_is) ∙ sym (append_assoc x y b.more)
            ∙ ap (λ z. z ++ b.more) (sym (L.view_append a.vs b.vs a.ds b.ds));
        result = b.result
            ∙ joined t a.more b.more s.got a.vs b.vs a.ds b.ds s.place s.fault a.result;
      }

  -- what is taken leaves a clean rest clean
  took_clean : (P : Takes) (s t : Scan) → Took P s t → L.Clean s.rest → L.Clean t.rest
  unfolding scan
  took_clean P s t a c =
      let x = L.view a.vs a.ds in
      subst L.Clean (sym (ap (λ z. z.rest) a.result))
      (subst L.Clean (ap (λ z. drop (length x) z) a.rest_is ∙ drop-append_seam x a.more)
      (L.clean_drop (length x) s.rest c))

  -- ---- fields
  took_field : (w : ℕ) (c : ℕ → ℕ) (s : Scan) → L.Clean s.rest → (read_field S w c s).fault.number ≡ 0 →
      Took (Holds D w (λ _ v. c v) (S.front w s.rest)) s (read_field S w c s)
  took_field w c s k e =
      let d = field_done S w c s e in
      let v = S.front w s.rest in
      let t = L.taken w s.rest k d.long d.fits in
      record {
        vs = v ∷ [];
        ds = t.0;
        more = drop (S.wide w) s.rest;
        begun = d.begun;
        parsed = record { passes = d.passes; spelt = t.1; numbers_are = refl };
        rest_is = sym (take-append-drop (S.wide w) s.rest) ∙ ap (λ z. z ++ drop (S.wide w) s.rest) t.2;
        result = d.result ∙ ap (λ n. scan (drop (S.wide w) s.rest) (s.place + n) (s.got ++ (v ∷ [])) s.fault)
            (sym (L.wide_is w v t.0 t.1));
      }

  -- the count just read is the last number got
  took_last : (w : ℕ) (c : Check) (v : ℕ) (s t : Scan) → Took (Holds D w c v) s t → v ≡ last_got t
  unfolding scan
  took_last w c v s t a =
      sym (last_is t.rest s.got t.place v t.fault)
      ∙ ap (λ z. last_got (scan t.rest t.place z t.fault))
      (sym (ap (λ z. z.got) a.result ∙ ap (λ z. s.got ++ z) a.parsed.numbers_are))

  -- ---- every grammar
  abbrev SoundStep : (f : Scan → Scan) → Takes → Type 0
  SoundStep f P = (s : Scan) → L.Clean s.rest → (f s).fault.number ≡ 0 → Took P s (f s)

  took_times : (g : Grammar) → SoundStep (λ s. read_by S g s) (Parses D g) → (k : ℕ) →
      SoundStep (λ s. times k (λ t. read_by S g t) s) (Many (Parses D g) k)
  unfolding times
  took_times g h zero s c e = took_none s e
  took_times g h (suc k) s c e =
      let t = read_by S g s in
      let a = h s c (times_began S k g t e) in
      took_then (Parses D g) (Many (Parses D g) k) s t (times k (λ u. read_by S g u) t) a
      (took_times g h k t (took_clean (Parses D g) s t a c) e)

  pub sound : (g : Grammar) → SoundStep (λ s. read_by S g s) (Parses D g)
  unfolding read_by
  sound (field w c) s k e =
      let v = S.front w s.rest in
      let a = took_field w (λ x. c s.got x) s k e in
      let p = a.parsed in
      took_as (Holds D w (λ _ x. c s.got x) v) (Field D w c) s (read_field S w (λ x. c s.got x) s) a
      (record { number = v; holds = record { passes = p.passes; spelt = p.spelt; numbers_are = p.numbers_are } })
  sound (seq g h) s k e =
      let t = read_by S g s in
      let a = sound g s k (read_began S h t e) in
      took_then (Parses D g) (Parses D h) s t (read_by S h t) a (sound h t (took_clean (Parses D g) s t a k) e)
  sound (counted l m w g) s k e =
      let t = read_field S w (λ v. count_check l m v) s in
      let v = S.front w s.rest in
      let n = last_got t in
      let H : Takes = Holds D w (λ _ x. count_check l m x) v in
      let M : Takes = Many (Parses D g) v in
      let u = times n (λ z. read_by S g z) t in
      let d = go_on t u e in
      let a = took_field w (λ x. count_check l m x) s k d.0 in
      let b = took_times g (sound g) n t (took_clean H s t a k) (ap (λ z. z.fault.number) (sym d.1) ∙ e) in
      let same = took_last w (λ _ x. count_check l m x) v s t a in
      let both = took_then H M s t u a (subst (λ z. Took (Many (Parses D g) z) t u) (sym same) b) in
      subst (λ z. Took (Counted D l m w (Parses D g)) s z) (sym d.1)
      (took_as (Then H M) (Counted D l m w (Parses D g)) s u both (record { count = v; parts = both.parsed }))
  sound nothing s k e = took_none s e
