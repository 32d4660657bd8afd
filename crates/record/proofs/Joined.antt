-- A part that joins numbers which hold the values of some groups and nothing else: they then hold the part's values too, and with More Data 0 they
-- are the numbers of a well-formed record.
use Prim.Native.Nat.{ℕ, zero, suc, ◌+◌, ◌-◌, ◌/◌, ◌%◌, ◌^◌, ◌<◌, ◌≤◌, min}
use mathlib.Core.Path.{◌≡◌, refl, sym, ap, ◌∙◌, subst}
use mathlib.Core.Bool.{Bool, true, false, cond, ◌||◌, true≢false}
use mathlib.Core.List.{List}
use native.Mathlib.Omega.{arith}
use lib.Bits.{bit_or}
use lib.Dec.{eqb, leb}
use lib.ListN.{length, get_or, drop}
use lib.Seq.{get_or-drop}
use Rattle.record.specs.Layout.{layout}
use Rattle.record.specs.Groups.{has, named, known, listed, optional, turned, flags_octets}
use Rattle.record.specs.Notification.{flags_of, names, heading, read_into, values, joined}
use Rattle.record.specs.Record.{formed}
use Rattle.record.proofs.Clean.{Clean, clean_read, clean_formed}
use Rattle.record.proofs.Parts.{listed_even, with_main, sub_suc}
use Rattle.record.proofs.Sets.{Sub, sub_trans, sub_same, sub_or, sub_or_l, sub_or_r, and_of_sub, has_or, has_and, has_zero, has_half, lowest_and, lowest_or}
use Rattle.record.proofs.Tests.{and_r, eqb_true, leb_true}

-- if a set lies in some optional groups and the main one, its optional groups lie in those
opt_sub : (n a : ℕ) → a % 2 ≡ 0 → Sub n (1 + a) → Sub (optional n) a
opt_sub n a e s = record { member = go }
  where
    go : (i : ℕ) → has (optional n) i ≡ true → has a i ≡ true
    go zero h =
        let z : (n - n % 2) % 2 ≡ 0 = omega arith in
        absurd (true≢false (sym h ∙ has_zero (optional n) ∙ ap (λ (x : ℕ). eqb x 1) z))
    go (suc i) h =
        let p : (n - n % 2) / 2 ≡ n / 2 = omega arith in
        let q : (1 + a) / 2 ≡ a / 2 = omega arith in
        sym (has_half a i) ∙ ap (λ (x : ℕ). has x i) (sym q) ∙ has_half (1 + a) i
        ∙ s.member (suc i) (sym (has_half n i) ∙ ap (λ (x : ℕ). has x i) (sym p) ∙ has_half (optional n) i ∙ h)

or_even : (a b : ℕ) → a % 2 ≡ 0 → b % 2 ≡ 0 → bit_or a b % 2 ≡ 0
or_even a b e f = lowest_or a b ∙ rw (e, f)

or_either : (a b i : ℕ) → has (bit_or a b) i ≡ true → has b i ≡ false → has a i ≡ true
or_either a b i h n = pick (has a i) (has b i) (sym (has_or a b i) ∙ h) n
  where
    pick : (x y : Bool) → (x || y) ≡ true → y ≡ false → x ≡ true
    pick true y e f = refl
    pick false y e f = absurd (true≢false (sym e ∙ f))

module _ (kind : ℕ) (k : known kind ≡ true) (s : List ℕ) (octets : (i : ℕ) → get_or s i 0 < 256) where
  abbrev flags : ℕ
  flags = flags_of kind s

  abbrev N : ℕ
  N = names kind flags

  named_listed : Sub N (1 + listed kind)
  named_listed = record {
    member = λ i h. and_r (has (turned flags) i) (has (1 + listed kind) i) (sym (has_and (turned flags) (1 + listed kind) i) ∙ h);
  }

  groups_listed : Sub (optional N) (listed kind)
  groups_listed = opt_sub N (listed kind) (listed_even kind) named_listed

  body_octets : (i : ℕ) → get_or (drop (flags_octets kind) s) i 0 < 256
  body_octets i = rw (get_or-drop (flags_octets kind) s i 0) (octets (flags_octets kind + i))

  main_bit : (x : ℕ) → turned flags % 2 ≡ x → x ≤ 1 → N % 2 ≡ x
  main_bit x t l =
      let e : listed kind % 2 ≡ 0 = listed_even kind in
      let u : (1 + listed kind) % 2 ≡ 1 = omega arith in
      let m : min x 1 ≡ x = omega arith in
      lowest_and (turned flags) (1 + listed kind) ∙ rw (t, u) m

  -- what is held once the part has joined numbers that hold the groups S
  module _ (S : ℕ) (v : List ℕ) (e : S % 2 ≡ 0) (inside : Sub S (listed kind)) (c : Clean kind S v) where
    abbrev held : ℕ
    held = bit_or S (optional N)

    pub held_even : held % 2 ≡ 0
    held_even = let z : (N - N % 2) % 2 ≡ 0 = omega arith in or_even S (optional N) e z

    pub held_listed : Sub held (listed kind)
    held_listed = sub_or inside groups_listed

    -- with More Data 1 the numbers hold the groups held and nothing else
    pub clean_waiting : flags % 2 ≡ 1 → Clean kind held (joined kind s v)
    unfolding values
    clean_waiting m =
        let t : turned flags % 2 ≡ 0 = omega arith in
        let z : N % 2 ≡ 0 = main_bit 0 t (omega arith) in
        let o : optional N ≡ N = omega arith in
        subst (λ (g : ℕ). Clean kind (bit_or S g) (read_into (named N (layout kind)) (drop (flags_octets kind) s) v)) (sym o)
        (clean_read kind S N (bit_or S N) v (drop (flags_octets kind) s) c (sub_or_l S N) (sub_or_r S N) (λ b h n. or_either S N b h n) body_octets)

    -- with More Data 0 they hold the main group too
    clean_last : flags % 2 ≡ 0 → Clean kind (1 + held) (joined kind s v)
    unfolding values
    clean_last m =
        let t : turned flags % 2 ≡ 1 = omega arith in
        let z : N % 2 ≡ 1 = main_bit 1 t (omega arith) in
        let o : 1 + optional N ≡ N = omega arith in
        let y : optional N % 2 ≡ 0 = omega arith in
        let all : bit_or held 1 ≡ 1 + held = with_main held held_even in
        let mine : bit_or (optional N) 1 ≡ N = with_main (optional N) y ∙ o in
        let sub-S : Sub S (1 + held) = sub_trans (sub_or_l S (optional N)) (sub_suc held held_even) in
        let sub-N : Sub N (1 + held) =
        sub_trans (sub_same (sym mine)) (sub_or (sub_trans (sub_or_r S (optional N)) (sub_suc held held_even)) (sub_trans (sub_or_r held 1) (sub_same all))) in
        clean_read kind S N (1 + held) v (drop (flags_octets kind) s) c sub-S sub-N
        (λ b h n.
        let in-N : has (bit_or (optional N) 1) b ≡ false = ap (λ (x : ℕ). has x b) mine ∙ n in
        let parts : has (optional N) b ≡ false × (has 1 b ≡ false) = neither (has (optional N) b) (has 1 b) (sym (has_or (optional N) 1 b) ∙ in-N) in
        or_either S (optional N) b (or_either held 1 b (ap (λ (x : ℕ). has x b) all ∙ h) parts.1) parts.0) body_octets
      where
        neither : (x y : Bool) → (x || y) ≡ false → (x ≡ false) × (y ≡ false)
        neither true y e = absurd (true≢false e)
        neither false y e = (refl, e)

    way : (b : Bool) (x : ℕ) → leb (cond b (x % 2) 0) (cond b 1 0) ≡ true
    way true x = let h : x % 2 ≤ 1 = omega arith in leb_true h
    way false x = refl

    -- with More Data 0 the numbers are those of a well-formed record
    pub formed_last : flags % 2 ≡ 0 → (length (joined kind s v) ≡ 31) × (formed kind held (heading kind flags) (joined kind s v) ≡ true)
    formed_last m =
        let w : Clean kind (1 + held) (joined kind s v) = clean_last m in (
          w.long,
          clean_formed kind held (heading kind flags) (joined kind s v) w k (eqb_true (and_of_sub held (listed kind) held_listed)) (way (eqb kind 2) (flags / 2 ^ 15)),
        )
