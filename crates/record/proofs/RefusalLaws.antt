-- No two refusals have the same number.
use Prim.Native.Nat.{ℕ, ◌-◌}
use mathlib.Core.Path.{◌≡◌, refl, sym, ap, ◌∙◌}
use mathlib.Core.Bool.{cond}
use mathlib.Core.List.{List, [], ◌∷◌}
use lib.Dec.{ltb}
use lib.ListN.{get_or}
use Rattle.record.specs.declared.refusal.Refusal.{Refusal}
use Rattle.record.specs.declared.refusal.Refusal.TheVariants.{ClientAboveThree, UnknownKind, PayloadOutOfRange, NotWellFormed, OutputTooShort, NoSuchPart, UnusableSetup, ConnectionMismatch, EmptyWrite, IndicationsOff, ResponseAwaited, NothingDue, NotEightOctets, NotificationTooLong, ShorterThanFlags, ShorterThanGroups, OutsideToldSet, Incomplete, ToldSetUnlisted, CaptureTooLong, CaptureCutShort}
use Rattle.record.specs.Refusal.{number_of}

-- the refusals from 10 to 22
tens : List Refusal
tens =
    ClientAboveThree ∷ UnknownKind ∷ PayloadOutOfRange ∷ NotWellFormed ∷ OutputTooShort ∷ NoSuchPart ∷ UnusableSetup ∷
    ConnectionMismatch ∷ EmptyWrite ∷ IndicationsOff ∷ ResponseAwaited ∷ NothingDue ∷ NotEightOctets ∷ []

-- the refusals from 30 to 37
thirties : List Refusal
thirties =
    NotificationTooLong ∷ ShorterThanFlags ∷ ShorterThanGroups ∷ OutsideToldSet ∷
    Incomplete ∷ ToldSetUnlisted ∷ CaptureTooLong ∷ CaptureCutShort ∷ []

-- the refusal with a number; any, if there is none
pub of_number : ℕ → Refusal
of_number n = cond (ltb n 30) (get_or tens (n - 10) ClientAboveThree) (get_or thirties (n - 30) ClientAboveThree)

pub of_number_of : (r : Refusal) → of_number (number_of r) ≡ r
unfolding of_number tens thirties
of_number_of ClientAboveThree = refl
of_number_of UnknownKind = refl
of_number_of PayloadOutOfRange = refl
of_number_of NotWellFormed = refl
of_number_of OutputTooShort = refl
of_number_of NoSuchPart = refl
of_number_of UnusableSetup = refl
of_number_of ConnectionMismatch = refl
of_number_of EmptyWrite = refl
of_number_of IndicationsOff = refl
of_number_of ResponseAwaited = refl
of_number_of NothingDue = refl
of_number_of NotEightOctets = refl
of_number_of NotificationTooLong = refl
of_number_of ShorterThanFlags = refl
of_number_of ShorterThanGroups = refl
of_number_of OutsideToldSet = refl
of_number_of Incomplete = refl
of_number_of ToldSetUnlisted = refl
of_number_of CaptureTooLong = refl
of_number_of CaptureCutShort = refl

pub number_once : (a b : Refusal) → number_of a ≡ number_of b → a ≡ b
number_once a b e = sym (of_number_of a) ∙ ap of_number e ∙ of_number_of b
