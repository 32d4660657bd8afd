-- No console is ever stuck: some call of each client succeeds, and each client can be brought to write again.
use Rattle.std.specs.Prelude.{Option, None, Some}
use Prim.Native.Nat.{ℕ, ◌≤◌, ◌<◌}
use mathlib.Core.Path.{◌≡◌, refl, sym, ap, ◌∙◌}
use mathlib.Core.Bool.{true, false, true≢false}
use mathlib.Core.List.{List, [], ◌∷◌}
use native.Mathlib.Omega.{arith}
use lib.Dec.{ltb, eqb-suc-zero, ltb→lt}
use lib.ListN.{length, get_or, set, length-set, get_or-eq_default}
use Rattle.record.specs.Answer.{given}
use Rattle.record.proofs.Tests.{passed, failed, tested, eqb_same, ltb_false, ltb_le, test_holds}
use Rattle.service.specs.declared.control.Client.{Client as Link}
use Rattle.service.specs.declared.control.Console.{Console}
use Rattle.service.specs.Control.Machine.{is, someone, without}
use Rattle.service.specs.Control.Console.{absent, is_connected, is_indicating}
use Rattle.service.specs.Control.Replies.{refusal_of}
use Rattle.service.specs.Control.Calls.{Opening, opened, connects, disconnects, indicates, confirms, writes}
use Rattle.demands.specs.Control.Point.{Call, connect, disconnect, confirm, indicate, service, Event, event, step, run}
use Rattle.demands.specs.Control.Laws.{Present, Sound, by, Heard}
use Rattle.demands.proofs.ControlLaws.Kept.{here, sound_step, sound_after}
use Rattle.demands.proofs.ControlLaws.Changes.{without_other}

-- ---- some call succeeds

connects_well : (k : Console) (c : ℕ) → c ≤ 3 → is_connected k c ≡ false → refusal_of (connects k c).0 ≡ 0
unfolding connects
connects_well k c h e = rw (ltb_false 3 c h, e)

disconnects_well : (k : Console) (c : ℕ) → c ≤ 3 → is_connected k c ≡ true → refusal_of (disconnects k c).0 ≡ 0
unfolding disconnects
disconnects_well k c h e = rw (ltb_false 3 c h, e)

pub some_call_succeeds : (k : Console) (c : ℕ) → c ≤ 3 → (q : Call) × (by q ≡ Some c) × (refusal_of (step k q).0 ≡ 0)
some_call_succeeds k c h = elim (tested (is_connected k c)) [
  | passed e ↦ (disconnect c, refl, disconnects_well k c h e)
  | failed e ↦ (connect c, refl, connects_well k c h e)
]

-- ---- a client that may write is answered, whatever it writes

pub writes_well : (k : Console) (c o : ℕ) (p : List ℕ) → Heard k c → refusal_of (writes k c (o ∷ p)).0 ≡ 0
unfolding writes
writes_well k c o p h = rw (ltb_false 3 c h.small, h.joined, eqb-suc-zero (length p), h.shown, h.clear)

-- ---- disconnect, connect, indications on

-- a client that is disconnected
record Away (k : Console) (c : ℕ) (w : Option ℕ) : Type 0 where
  four : length k.clients ≡ 4
  away : is_connected k c ≡ false
  waits : k.awaited ≡ w

-- and one that is back, with indications on
record Back (k : Console) (c : ℕ) (w : Option ℕ) : Type 0 where
  joined : is_connected k c ≡ true
  shown : is_indicating k c ≡ true
  waits : k.awaited ≡ w

module _ (k : Console) (c : ℕ) (h : c ≤ 3) where
  goes : Sound k → Away (disconnects k c).1 c (without k.awaited c)
  unfolding disconnects
  goes s = elim (tested (is_connected k c)) [
    | passed e ↦
        rw (ltb_false 3 c h, e) (record {
          four = length-set k.clients c absent ∙ s.links.four;
          away = ap (λ (x : Link). x.connected) (here k.clients s.links.four c h absent);
          waits = refl;
        })
    | failed e ↦
        rw (ltb_false 3 c h, e) (record {
          four = s.links.four;
          away = e;
          waits = sym (another k.awaited s.links.awaited_connected e);
        })
  ]
    where
      another : (w : Option ℕ) → Present k.clients w → is_connected k c ≡ false → without w c ≡ w
      another w p e = without_other w c (λ (f : w ≡ Some c). true≢false (sym (rw f at p) ∙ e))

  comes : {w : Option ℕ} → Away k c w → Back (indicates (connects k c).1 c true).1 c w
  unfolding connects indicates
  comes a =
      let x : Link = record { connected = true; indicating = false } in
      let y : Link = record { connected = true; indicating = true } in
      let e : get_or (set k.clients c x) c absent ≡ x = here k.clients a.four c h x in
      let f : get_or (set (set k.clients c x) c y) c absent ≡ y = here (set k.clients c x) (length-set k.clients c x ∙ a.four) c h y in
      let t : (get_or (set k.clients c x) c absent).connected ≡ true = ap (λ (z : Link). z.connected) e in
      rw (ltb_false 3 c h, a.away, t) (record {
        joined = ap (λ (z : Link). z.connected) f;
        shown = ap (λ (z : Link). z.indicating) f;
        waits = a.waits;
      })

-- the calls that bring a client back
abbrev pub back : ℕ → List Call
back c = disconnect c ∷ connect c ∷ indicate c true ∷ []

module _ (k : Console) (s : Sound k) (c : ℕ) (h : c ≤ 3) (past : List Event) where
  comes_back : Back (run service k past (back c)).1 c (without k.awaited c)
  unfolding run
  comes_back = comes (disconnects k c).1 c h (goes k c h s)

  -- after disconnect, connect and turning indications on, a client can write again unless another's response is awaited
  pub back_again : someone (without k.awaited c) ≡ false → Heard (run service k past (back c)).1 c
  back_again f = record { small = h; joined = comes_back.joined; shown = comes_back.shown; clear = rw comes_back.waits f }

  pub back_busy : someone (without k.awaited c) ≡ true → (o : ℕ) (p : List ℕ) →
      refusal_of (writes (run service k past (back c)).1 c (o ∷ p)).0 ≡ 20
  unfolding writes
  back_busy f o p = rw (ltb_false 3 c h, comes_back.joined, eqb-suc-zero (length p), comes_back.shown, comes_back.waits, f)

-- ---- and another client's response can be confirmed

present_small : (l : List Link) (d : ℕ) → length l ≡ 4 → Present l (Some d) → d ≤ 3
present_small l d n e = elim (tested (ltb 3 d)) [
  | passed f ↦
      let m : 3 < d = ltb→lt 3 d (test_holds f) in
      absurd (true≢false (sym e ∙ ap (λ (x : Link). x.connected) (get_or-eq_default l absent (omega arith))))
  | failed f ↦ ltb_le 3 d f
]

pub confirms_well : (k : Console) → Sound k → (d : ℕ) → k.awaited ≡ Some d →
    (refusal_of (confirms k d).0 ≡ 0) × ((confirms k d).1.awaited ≡ None)
unfolding confirms
confirms_well k s d e =
    let p : is_connected k d ≡ true = (let q : Present k.clients k.awaited = s.links.awaited_connected in rw e at q) in
    let t : is k.awaited d ≡ true = rw e (eqb_same d) in
    rw (ltb_false 3 d (present_small k.clients d s.links.four p), p, t) (refl, refl)

-- from every sound console each client can be brought to write
pub never_stuck : (k : Console) → Sound k → (c : ℕ) → c ≤ 3 → (qs : List Call) × Heard (run service k [] qs).1 c
never_stuck k s c h = from k.awaited refl
  where
    from : (w : Option ℕ) → k.awaited ≡ w → (qs : List Call) × Heard (run service k [] qs).1 c
    from None e = (back c, back_again k s c h [] (rw e))
    from (Some d) e = (
      confirm d ∷ back c,
      unfold run in back_again (confirms k d).1 (sound_step k (confirm d) s) c h (event (confirm d) (confirms k d).0 ∷ [])
          (rw (confirms_well k s d e).1),
    )

-- and so after any sequence of calls from opening on
pub alive_after : (o : Opening) (k : Console) → opened o ≡ given k → (qs : List Call) → (c : ℕ) → c ≤ 3 →
    (more : List Call) × Heard (run service (run service k [] qs).1 [] more).1 c
alive_after o k e qs c h = never_stuck (run service k [] qs).1 (sound_after o k e qs) c h
