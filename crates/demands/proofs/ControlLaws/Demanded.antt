-- What demand 2's predicate says of any control point: it answers by its history, and says in each run what the run's speeds say.
use Rattle.std.specs.Prelude.{Option, Some}
use Prim.Native.Nat.{ℕ, suc}
use mathlib.Core.Path.{◌≡◌, refl, sym, ap, ◌∙◌}
use mathlib.Core.Bool.{false}
use mathlib.Core.List.{List, [], ◌∷◌, ◌++◌}
use native.Mathlib.Omega.{arith}
use Rattle.record.specs.declared.feature.Feature.{Feature}
use Rattle.record.specs.Answer.{Answer, refused, given}
use Rattle.record.specs.Feature.{feature_of}
use Rattle.record.specs.Octets.{number}
use Rattle.record.proofs.Tests.{passed, failed, tested, eqb_same}
use Rattle.service.specs.declared.control.Console.{Console}
use Rattle.service.specs.declared.control.spin_down.TargetSpeeds.{TargetSpeeds}
use Rattle.service.specs.Control.Replies.{Sent, sent, refusal_of}
use Rattle.service.specs.Control.Calls.{Opening, opened}
use Rattle.service.proofs.ControlLaws.Answers.{setup_of}
use Rattle.demands.specs.Control.Point.{Call, disconnect, flywheel, Point, service, Event, event, latest, run, Answers}
use Rattle.demands.specs.Control.Laws.{succeeded, holder_by}
use Rattle.demands.specs.Control.Runs.{Led, next_led, led_by, words, spoken, SaysByRun}
use Rattle.demands.specs.Control.Answered.{answer_by, AnswersByHistory}
use Rattle.demands.proofs.ControlLaws.History.{and_no}
use Rattle.demands.proofs.ControlLaws.Runs.{says_by_run}
use Rattle.demands.proofs.ControlLaws.Answered.{answers_by_history, run_more}

module _ {S : Type 0} (p : Point S) (a : Answers p) where
  -- where it opens, the service opens, and the same happens after it
  abbrev Alike : Opening → S → Type 0
  Alike o x = (k : Console) × (opened o ≡ given k) × ((qs : List Call) → (run p x [] qs).0 ≡ (run service k [] qs).0)

  alike : (o : Opening) (x : S) → p.opening o ≡ given x → Alike o x
  alike o x h = from (opened o) refl
    where
      from : (b : Answer Console) → opened o ≡ b → Alike o x
      from (refused n) e =
          absurd (let z : ◌≡◌ {A = Answer S} (refused n) (given x) = sym (a.refuses_alike o n e) ∙ h in let y : ◌≡◌ {A = ℕ} 0 1 = cc in omega arith)
      from (given k) e =
          let g : (y : S) × (p.opening o ≡ given y) × ((qs : List Call) → (run p y [] qs).0 ≡ (run service k [] qs).0) = a.answers_alike o k e in
          let i : given x ≡ given g.0 = sym h ∙ g.1 in
          let j : x ≡ g.0 = cc in
          (k, e, λ qs. ap (λ (y : S). (run p y [] qs).0) j ∙ g.2 qs)

  pub answers_told : AnswersByHistory p
  answers_told = record {
    refuses = λ o n e. a.refuses_alike o (suc n) (answers_by_history.refuses o n e);
    opens = λ o e.
        let g : (k : Console) × (opened o ≡ given k) = answers_by_history.opens o e in
        ((a.answers_alike o g.0 g.1).0, (a.answers_alike o g.0 g.1).1);
    answers = λ o f e x h qs q w.
        let g : Alike o x = alike o x h in
        ap latest (sym (run_more p x [] qs q) ∙ g.2 (qs ++ q ∷ []) ∙ run_more service g.0 [] qs q) ∙
        answers_by_history.answers o f e g.0 g.1 qs q w ∙ ap (λ (l : List Event). answer_by (setup_of f o) l q) (sym (g.2 qs));
  }

  pub answers_say : SaysByRun p
  answers_say o x h qs =
      let g : Alike o x = alike o x h in
      ap spoken (g.2 qs) ∙ says_by_run o g.0 g.1 qs ∙ ap (λ (l : List Event). words o.speeds (led_by o.speeds l).speeds) (sym (g.2 qs))

-- ---- the holder's disconnect

over_then : (t : TargetSpeeds) (c : ℕ) (b : Answer Sent) (r : Led) → refusal_of b ≡ 0 → (next_led t (Some c) (event (disconnect c) b) r).on ≡ false
unfolding number
over_then t c b r h =
    let e : Event = event (disconnect c) b in
    elim (tested (succeeded 0x01 e)) [
      | passed s ↦ rw (and_no (succeeded 0x13 e), s, eqb_same c)
      | failed s ↦ rw (and_no (succeeded 0x13 e), s, h, eqb_same c)
    ]

module _ {S : Type 0} (p : Point S) (a : AnswersByHistory p) (o : Opening) (f : Feature) (e : feature_of o.feature ≡ given f)
    (x : S) (h : p.opening o ≡ given x) (qs : List Call) where
  -- outside a run nothing is said
  pub outside_says_nothing : (v : ℕ) → (led_by o.speeds (run p x [] qs).0).on ≡ false → (p.calling (run p x [] qs).1 (flywheel v)).0 ≡ sent [] []
  outside_says_nothing v n = a.answers o f e x h qs (flywheel v) tt ∙ rw n

  -- a run is over after the holder's disconnect
  gone_over : (c : ℕ) → holder_by (run p x [] qs).0 [] ≡ Some c → refusal_of (p.calling (run p x [] qs).1 (disconnect c)).0 ≡ 0 →
      (led_by o.speeds (run p x [] (qs ++ disconnect c ∷ [])).0).on ≡ false
  unfolding led_by
  gone_over c w d =
      let b : Answer Sent = (p.calling (run p x [] qs).1 (disconnect c)).0 in
      let r : Led = led_by o.speeds (run p x [] qs).0 in
      ap (λ (l : List Event). (led_by o.speeds l).on) (run_more p x [] qs (disconnect c)) ∙
      ap (λ (w : Option ℕ). (next_led o.speeds w (event (disconnect c) b) r).on) w ∙ over_then o.speeds c b r d

-- after the holder's disconnect no speed says anything
pub gone_says_nothing : {S : Type 0} (p : Point S) → AnswersByHistory p → (o : Opening) (f : Feature) → feature_of o.feature ≡ given f →
    (x : S) → p.opening o ≡ given x → (qs : List Call) (c v : ℕ) → holder_by (run p x [] qs).0 [] ≡ Some c →
    refusal_of (p.calling (run p x [] qs).1 (disconnect c)).0 ≡ 0 → (p.calling (run p x [] (qs ++ disconnect c ∷ [])).1 (flywheel v)).0 ≡ sent [] []
gone_says_nothing p a o f e x h qs c v w d = outside_says_nothing p a o f e x h (qs ++ disconnect c ∷ []) v (gone_over p a o f e x h qs c w d)
