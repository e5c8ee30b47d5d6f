-- The number that 01 and 02 give each reason to refuse (order-1, form-8, and the rules refusal-0 to refusal-16,
-- refusal-21, refusal-22, fault-2, fault-3, family-13, family-14). No choice matters here. Assumes nothing.
use Rattle.std.specs.Prelude.{ℕ}
use Rattle.tariff.specs.declared.Refusal.{Refusal}
use Rattle.tariff.specs.declared.Refusal.TheVariants.{Unsound, UnusedField, StartDay, Unplaced, UnitCount, MeterFull, OverCredit}
use Rattle.tariff.specs.declared.Refusal.TheVariants.{TopUpSize, PaidLimit, LastDay, FileLength, FileSum, FileTable, NotOnce}
use Rattle.tariff.specs.declared.Refusal.TheVariants.{BodyLength, CallForm, NoRoom, PriceRange, FeeRange, CardPlace}
use Rattle.tariff.specs.declared.Refusal.TheVariants.{CardAllowance, TextLength, LineForm}

-- order-1, form-8: the number of a refusal
abbrev pub refusal_number : Refusal → ℕ
refusal_number Unsound = 0
refusal_number UnusedField = 1
refusal_number StartDay = 2
refusal_number Unplaced = 3
refusal_number UnitCount = 4
refusal_number MeterFull = 5
refusal_number OverCredit = 6
refusal_number TopUpSize = 7
refusal_number PaidLimit = 8
refusal_number LastDay = 9
refusal_number FileLength = 10
refusal_number FileSum = 11
refusal_number FileTable = 12
refusal_number NotOnce = 13
refusal_number BodyLength = 14
refusal_number CallForm = 15
refusal_number NoRoom = 16
refusal_number PriceRange = 17
refusal_number FeeRange = 18
refusal_number CardPlace = 19
refusal_number CardAllowance = 20
refusal_number TextLength = 21
refusal_number LineForm = 22
