-- "Refusal numbers": what each refusal of the code is in document 01's table.
use Rattle.std.specs.Prelude.{ℕ}
use Rattle.record.specs.declared.refusal.Refusal.{Refusal}
use Rattle.record.specs.declared.refusal.Refusal.TheVariants.{ClientAboveThree, UnknownKind, PayloadOutOfRange, NotWellFormed, OutputTooShort, NoSuchPart, UnusableSetup, ConnectionMismatch, EmptyWrite, IndicationsOff, ResponseAwaited, NothingDue, NotEightOctets, NotificationTooLong, ShorterThanFlags, ShorterThanGroups, OutsideToldSet, Incomplete, ToldSetUnlisted, CaptureTooLong, CaptureCutShort}

-- the table's number; the table's words are beside the code's enum
abbrev pub number_of : Refusal → ℕ
number_of ClientAboveThree = 10
number_of UnknownKind = 11
number_of PayloadOutOfRange = 12
number_of NotWellFormed = 13
number_of OutputTooShort = 14
number_of NoSuchPart = 15
number_of UnusableSetup = 16
number_of ConnectionMismatch = 17
number_of EmptyWrite = 18
number_of IndicationsOff = 19
number_of ResponseAwaited = 20
number_of NothingDue = 21
number_of NotEightOctets = 22
number_of NotificationTooLong = 30
number_of ShorterThanFlags = 31
number_of ShorterThanGroups = 32
number_of OutsideToldSet = 33
number_of Incomplete = 34
number_of ToldSetUnlisted = 35
number_of CaptureTooLong = 36
number_of CaptureCutShort = 37
