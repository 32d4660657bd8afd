-- Control points that are wrong about spin down: each breaks demand 2's predicate, whatever else it does, or the law of a run.
use Rattle.std.specs.Prelude.{Option, Some}
use Prim.Native.Nat.{ℕ, ◌≤◌}
use mathlib.Core.Path.{◌≡◌, refl, sym, ap, subst, ◌∙◌}
use mathlib.Core.Bool.{Bool, true, false, cond, ◌&&◌, true≢false}
use mathlib.Core.List.{List, [], ◌∷◌, ◌++◌}
use native.Mathlib.Omega.{arith}
use lib.Dec.{eqb, lit≤}
use lib.ListN.{length, get_or}
use Rattle.record.specs.declared.feature.Feature.{Feature}
use Rattle.record.specs.Answer.{Answer, refused, given}
use Rattle.record.specs.Feature.{feature_of}
use Rattle.record.specs.Groups.{has}
use Rattle.record.specs.Octets.{spelled, number}
use Rattle.service.specs.declared.control.Console.{Console}
use Rattle.service.specs.declared.control.spin_down.Run.{Run}
use Rattle.service.specs.declared.control.spin_down.Run.TheVariants.{Off, Quiet, Warned}
use Rattle.service.specs.Control.OpCodes.{op_code}
use Rattle.service.specs.Control.SpinDown.{in_order, on, speed_octets}
use Rattle.service.specs.Control.Machine.{is, someone, held_by, spinning}
use Rattle.service.specs.Control.Judging.{fit, judged}
use Rattle.service.specs.Control.Console.{with_machine}
use Rattle.service.specs.Control.Replies.{Sent, refuses, sent, response_of, status_of, refusal_of}
use Rattle.service.specs.Control.Calls.{Opening, opened, connects, disconnects, indicates, confirms, writes, feeds}
use Rattle.demands.specs.Control.Point.{Call, connect, disconnect, confirm, indicate, write, flywheel, Point, service, latest, step, run, Answers}
use Rattle.demands.specs.Control.Laws.{result_in, holder_by}
use Rattle.demands.specs.Control.History.{mode_by, awaited_by, connected_by, indicating_by}
use Rattle.demands.specs.Control.Runs.{led_by, run_of, spoken, RunByHistory, SaysByRun, OneOfFour, nothing, four, two, four_then_two}
use Rattle.demands.specs.Control.Answered.{answer_by, OctetIn, AnswersByHistory}
use Rattle.demands.specs.Control.Cases.{speeds, ready, holds, asks}
use Rattle.demands.specs.Control.Worked.Ends.{able}
use Rattle.demands.specs.Control.Worked.Openings.{fair, coasting}
use Rattle.demands.specs.Control.Worked.Coasting.{starts}
use Rattle.demands.proofs.ControlLaws.Runs.{words_four}
use Rattle.demands.proofs.ControlLaws.Answered.{run_more}
use Rattle.demands.proofs.ControlLaws.Demanded.{answers_told, answers_say, gone_says_nothing}
use Rattle.demands.proofs.ControlLaws.Meets.{plain_console}
use Rattle.demands.proofs.ControlLaws.Liars.{altered, retold, of_write, able_console, able_opens}

-- ---- any control point

module _ {S : Type 0} (p : Point S) where
  -- the answer to a last call is the service's
  last_so : (qs : List Call) (q : Call) (b : Answer Sent) → latest (run service able_console [] (qs ++ q ∷ [])).0 ≡ b → Answers p →
      (x : S) × ((p.calling x q).0 ≡ b)
  last_so qs q b e a =
      let g : (y : S) × (p.opening (able fair) ≡ given y) × ((qs : List Call) → (run p y [] qs).0 ≡ (run service able_console [] qs).0) =
      a.answers_alike (able fair) able_console able_opens in
      ((run p g.0 [] qs).1, ap latest (sym (run_more p g.0 [] qs q) ∙ g.2 (qs ++ q ∷ [])) ∙ e)

  -- one that never gives a status that the service gives at the first speed of a run
  never_said : (u : ℕ) (s : List ℕ) → latest (run service able_console [] (starts ++ flywheel u ∷ [])).0 ≡ sent [] s →
      ((x : S) (v : ℕ) → status_of (p.calling x (flywheel v)).0 ≡ s → ⊥) → Answers p → ⊥
  never_said u s e h a = let g : (x : S) × ((p.calling x (flywheel u)).0 ≡ sent [] s) = last_so starts (flywheel u) (sent [] s) e a in h g.0 u (ap status_of g.1)

  -- one that never says 2, and one that never says 4
  pub not_never_2 : ((x : S) (v : ℕ) → status_of (p.calling x (flywheel v)).0 ≡ 0x14 ∷ 2 ∷ [] → ⊥) → Answers p → ⊥
  unfolding run connects indicates confirms writes feeds op_code fit judged number has spelled
  not_never_2 = never_said 1000 (0x14 ∷ 2 ∷ []) refl

  pub not_never_4 : ((x : S) (v : ℕ) → status_of (p.calling x (flywheel v)).0 ≡ 0x14 ∷ 4 ∷ [] → ⊥) → Answers p → ⊥
  unfolding run connects indicates confirms writes feeds op_code fit judged number has spelled
  not_never_4 = never_said 2000 (0x14 ∷ 4 ∷ []) refl

  -- one whose responses have no speeds
  abbrev seven : List ℕ
  seven = 0x80 ∷ 0x13 ∷ 0x01 ∷ 0xe8 ∷ 0x03 ∷ 0xd0 ∷ 0x07 ∷ []

  pub not_without_speeds : ((x : S) (q : Call) → length (response_of (p.calling x q).0) ≤ 3) → Answers p → ⊥
  unfolding run connects indicates confirms writes op_code fit judged number has spelled
  not_without_speeds h a =
      let g : (x : S) × ((p.calling x (write 0 (0x13 ∷ 1 ∷ []))).0 ≡ sent seven []) = last_so (holds 0) (write 0 (0x13 ∷ 1 ∷ [])) (sent seven []) refl a in
      let e : length (response_of (p.calling g.0 (write 0 (0x13 ∷ 1 ∷ []))).0) ≡ 7 = ap (λ (b : Answer Sent). length (response_of b)) g.1 in
      let l : length (response_of (p.calling g.0 (write 0 (0x13 ∷ 1 ∷ []))).0) ≤ 3 = h g.0 (write 0 (0x13 ∷ 1 ∷ [])) in
      omega arith

  -- what is said in one run, and after it, is nothing, 4, 2, or 4 then 2
  pub one_of_four : Answers p → (o : Opening) (x : S) → p.opening o ≡ given x → (qs : List Call) → OneOfFour (spoken (run p x [] qs).0)
  one_of_four a o x h qs =
      subst OneOfFour (sym (answers_say p a o x h qs)) (words_four o.speeds (led_by o.speeds (run p x [] qs).0).speeds)

  -- one that says 4 twice in a run, after any opening and any calls
  pub not_4_twice : (o : Opening) (x : S) → p.opening o ≡ given x → (qs : List Call) → spoken (run p x [] qs).0 ≡ 0x14 ∷ 4 ∷ 0x14 ∷ 4 ∷ [] → Answers p → ⊥
  not_4_twice o x h qs t a = from (spoken (run p x [] qs).0) t (one_of_four a o x h qs)
    where
      from : (s : List ℕ) → s ≡ 0x14 ∷ 4 ∷ 0x14 ∷ 4 ∷ [] → OneOfFour s → ⊥
      from s t nothing = let z : ◌≡◌ {A = ℕ} 0 4 = ap length t in omega arith
      from s t four = let z : ◌≡◌ {A = ℕ} 2 4 = ap length t in omega arith
      from s t two = let z : ◌≡◌ {A = ℕ} 2 4 = ap length t in omega arith
      from s t four_then_two = let z : ◌≡◌ {A = ℕ} 2 4 = ap (λ (l : List ℕ). get_or l 3 0) t in omega arith

  -- one that says anything at a speed after the holder's disconnect, after any opening and any calls
  pub not_outliving : (o : Opening) (f : Feature) → feature_of o.feature ≡ given f → (x : S) → p.opening o ≡ given x → (qs : List Call) (c v : ℕ) →
      holder_by (run p x [] qs).0 [] ≡ Some c → refusal_of (p.calling (run p x [] qs).1 (disconnect c)).0 ≡ 0 →
      (status_of (p.calling (run p x [] (qs ++ disconnect c ∷ [])).1 (flywheel v)).0 ≡ [] → ⊥) → Answers p → ⊥
  not_outliving o f e x h qs c v w d s a = s (ap status_of (gone_says_nothing p (answers_told p a) o f e x h qs c v w d))

-- ---- such control points, in the console that they keep

able_feature : feature_of (able fair).feature ≡ given able_console.machine.setup.feature
unfolding number
able_feature = refl

-- the run after a call is this one
abbrev with_run : Console → Run → Console
with_run k r = with_machine k (spinning k.machine r)

-- 4 is said at every speed at or below high
abbrev forgetful : Run → Run
forgetful Off = Off
forgetful Quiet = Quiet
forgetful Warned = Quiet

abbrev pub warns_again : Point Console
warns_again = altered (λ q before after. with_run after (forgetful after.machine.run))

pub warns_again_unlawful : SaysByRun warns_again → ⊥
unfolding spoken led_by holder_by run connects indicates confirms writes feeds op_code fit judged number has spelled
warns_again_unlawful h =
    let e : ◌≡◌ {A = ℕ} 4 2 = ap length (h (able fair) able_console able_opens (starts ++ flywheel 2000 ∷ flywheel 1999 ∷ [])) in omega arith

pub warns_again_refuted : Answers warns_again → ⊥
warns_again_refuted a = warns_again_unlawful (answers_say warns_again a)

-- the run after a disconnect, and after a write of an op code that a test picks
abbrev after_leaving : (Run → Run) → Call → Console → Console → Console
after_leaving f (connect c) before after = after
after_leaving f (disconnect c) before after = with_run after (f before.machine.run)
after_leaving f (confirm c) before after = after
after_leaving f (indicate c b) before after = after
after_leaving f (write c s) before after = after
after_leaving f (flywheel v) before after = after

abbrev after_writing : (ℕ → Bool) → (Run → Run) → Call → Console → Console → Console
after_writing t f (connect c) before after = after
after_writing t f (disconnect c) before after = after
after_writing t f (confirm c) before after = after
after_writing t f (indicate c b) before after = after
after_writing t f (write c s) before after = cond (t (get_or s 0 0)) (with_run after (f before.machine.run)) after
after_writing t f (flywheel v) before after = after

-- a run outlives the holder's disconnect; every client's disconnect ends it; it outlives a reset; a stop or pause ends it
abbrev pub run_outlives : Point Console
run_outlives = altered (after_leaving (λ r. r))

abbrev pub any_leaves : Point Console
any_leaves = altered (after_leaving (λ r. Off))

abbrev pub run_reset : Point Console
run_reset = altered (after_writing (λ o. eqb o 0x01) (λ r. r))

abbrev pub run_halted : Point Console
run_halted = altered (after_writing (λ o. eqb o 0x08) (λ r. Off))

pub run_outlives_refuted : Answers run_outlives → ⊥
unfolding holder_by run connects disconnects indicates confirms writes feeds op_code fit judged number has spelled
run_outlives_refuted =
    not_outliving run_outlives (able fair) able_console.machine.setup.feature able_feature able_console able_opens starts 0 1000 refl refl
    (λ e. let z : ◌≡◌ {A = ℕ} 2 0 = ap length e in omega arith)

module _ (p : Point Console) (h : RunByHistory p) (o : p.opening (able fair) ≡ given able_console) where
  -- whether there is a run after these calls, and whether the history says so
  runs_so : (qs : List Call) (a b : Bool) → on (run p able_console [] qs).1.machine.run ≡ a → on (run_of speeds (led_by speeds (run p able_console [] qs).0)) ≡ b → a ≡ b
  runs_so qs a b e f = sym e ∙ ap on (h.run_so (able fair) able_console o qs) ∙ f

pub run_outlives_unlawful : RunByHistory run_outlives → ⊥
unfolding led_by holder_by run connects disconnects indicates confirms writes feeds op_code fit judged number has spelled
run_outlives_unlawful h = true≢false (runs_so run_outlives h able_opens (starts ++ disconnect 0 ∷ []) true false refl refl)

pub any_leaves_unlawful : RunByHistory any_leaves → ⊥
unfolding led_by holder_by run connects disconnects indicates confirms writes feeds op_code fit judged number has spelled
any_leaves_unlawful h = true≢false (sym (runs_so any_leaves h able_opens (starts ++ connect 1 ∷ disconnect 1 ∷ []) false true refl refl))

pub run_reset_unlawful : RunByHistory run_reset → ⊥
unfolding led_by holder_by run connects disconnects indicates confirms writes feeds op_code fit judged number has spelled
run_reset_unlawful h = true≢false (runs_so run_reset h able_opens (starts ++ asks 0 (0x01 ∷ [])) true false refl refl)

pub run_halted_unlawful : RunByHistory run_halted → ⊥
unfolding led_by holder_by run connects disconnects indicates confirms writes feeds op_code fit judged number has spelled
run_halted_unlawful h = true≢false (sym (runs_so run_halted h able_opens (starts ++ asks 0 (0x07 ∷ []) ++ asks 0 (0x08 ∷ 1 ∷ [])) false true refl refl))

-- a client that does not hold control starts a run: it is the holder while it writes 13
abbrev holding : Console → Option ℕ → Console
holding k w = with_machine k (held_by k.machine w)

abbrev as_holder : Console → Call → Answer Sent × Console
as_holder k (connect c) = connects k c
as_holder k (disconnect c) = disconnects k c
as_holder k (confirm c) = confirms k c
as_holder k (indicate c b) = indicates k c b
as_holder k (write c s) =
    let x : Answer Sent × Console = writes (holding k (Some c)) c s in
    cond (eqb (get_or s 0 0) 0x13) (x.0, holding x.1 k.machine.holder) (writes k c s)
as_holder k (flywheel v) = feeds k v

abbrev pub anyone_starts : Point Console
anyone_starts = record { opening = opened; calling = as_holder }

pub anyone_starts_unlawful : RunByHistory anyone_starts → ⊥
unfolding led_by holder_by run connects disconnects indicates confirms writes feeds op_code fit judged number has spelled
anyone_starts_unlawful h =
    true≢false (ap (λ (w : Option ℕ). is w 0) (h.starter_holds (able fair) able_console able_opens (holds 0 ++ ready 1 ++ asks 1 (0x13 ∷ 1 ∷ [])) refl))

-- ---- in their answers

-- a start that succeeds is answered otherwise
abbrev start_told : (Answer Sent → Answer Sent) → Call → Console → Answer Sent → Answer Sent
start_told f = of_write (λ c s before a. cond (eqb (number 2 s) 0x0113 && eqb (result_in a) 0x01) (f a) a)

abbrev start : Call
start = write 0 (0x13 ∷ 1 ∷ [])

-- it has the status 14 01, source document 000's "Spin Down Requested"
abbrev pub says_requested : Point Console
says_requested = retold (start_told (λ a. sent (response_of a) (0x14 ∷ 1 ∷ [])))

pub says_requested_unlawful : SaysByRun says_requested → ⊥
unfolding spoken led_by holder_by run connects indicates confirms writes op_code fit judged number has spelled
says_requested_unlawful h = let e : ◌≡◌ {A = ℕ} 2 0 = ap length (h (able fair) able_console able_opens (holds 0 ++ start ∷ [])) in omega arith

-- a speed is refused while a response awaits confirmation
abbrev busy : Console → Call → Answer Sent × Console → Answer Sent × Console
busy k (connect c) x = x
busy k (disconnect c) x = x
busy k (confirm c) x = x
busy k (indicate c b) x = x
busy k (write c s) x = x
busy k (flywheel v) x = cond (someone k.awaited) (refuses k 20) x

abbrev pub busy_for_speeds : Point Console
busy_for_speeds = record { opening = opened; calling = λ k q. busy k q (step k q) }

pub busy_for_speeds_unlawful : SaysByRun busy_for_speeds → ⊥
unfolding spoken led_by holder_by run connects indicates confirms writes feeds op_code fit judged number has spelled
busy_for_speeds_unlawful h = let e : ◌≡◌ {A = ℕ} 0 2 = ap length (h (able fair) able_console able_opens (holds 0 ++ start ∷ flywheel 1000 ∷ [])) in omega arith

-- the high speed is before the low one
abbrev pub high_first : Point Console
high_first = retold (start_told (λ a. sent (0x80 ∷ 0x13 ∷ 0x01 ∷ speed_octets (record { low = 2000; high = 1000 })) []))

-- a start during a run succeeds, and the run begins again
abbrev anew : Call → Console → Console
anew (connect c) k = k
anew (disconnect c) k = k
anew (confirm c) k = k
anew (indicate c b) k = k
anew (write c s) k = cond (eqb (number 2 s) 0x0113 && is k.machine.holder c) (with_run k Off) k
anew (flywheel v) k = k

abbrev pub starts_again : Point Console
starts_again = record { opening = opened; calling = λ k q. step (anew q k) q }

module _ (p : Point Console) (h : AnswersByHistory p) (o : p.opening (able fair) ≡ given able_console) where
  told : (qs : List Call) (q : Call) → OctetIn q →
      (p.calling (run p able_console [] qs).1 q).0 ≡ answer_by able_console.machine.setup (run p able_console [] qs).0 q
  told = h.answers (able fair) able_console.machine.setup.feature able_feature able_console o

pub high_first_refuted : AnswersByHistory high_first → ⊥
unfolding run connects indicates confirms writes op_code fit judged number has spelled holder_by mode_by awaited_by connected_by indicating_by led_by
high_first_refuted h =
    let e : ◌≡◌ {A = ℕ} 0xd0 0xe8 = ap (λ (a : Answer Sent). get_or (response_of a) 3 0) (told high_first h able_opens (holds 0) start (lit≤ tt)) in omega arith

pub starts_again_refuted : AnswersByHistory starts_again → ⊥
unfolding run connects indicates confirms writes op_code fit judged number has spelled holder_by mode_by awaited_by connected_by indicating_by led_by
starts_again_refuted h = let e : ◌≡◌ {A = ℕ} 0x01 0x04 = ap result_in (told starts_again h able_opens starts start (lit≤ tt)) in omega arith

-- it opens with target speeds that are not in order
abbrev pub opens_level : Point Console
opens_level = record { opening = λ o. cond (in_order o.speeds) (opened o) (given plain_console); calling = step }

pub opens_level_refuted : AnswersByHistory opens_level → ⊥
opens_level_refuted h =
    let e : ◌≡◌ {A = Answer Console} (given plain_console) (refused 16) = h.refuses (coasting 8 1000 1000) 15 refl in
    let z : ◌≡◌ {A = ℕ} 0 1 = cc in omega arith
