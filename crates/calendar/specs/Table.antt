-- The table of month starts, and the claim that it keeps the calendar (month-2, month-3, form-1). No choice matters
-- here. Assumes nothing.
use Rattle.std.specs.Prelude.{ℕ, ◌<◌, ◌≡◌, List, [], ◌∷◌, get_or}
use Rattle.calendar.specs.Calendar.{first_day}

-- month-2, form-1: the table, a year to a line, as `MONTH_STARTS` of the code holds it
unfoldable pub month_starts : List ℕ
month_starts =
    0 ∷ 31 ∷ 59 ∷ 90 ∷ 120 ∷ 151 ∷ 181 ∷ 212 ∷ 243 ∷ 273 ∷ 304 ∷ 334
    ∷ 365 ∷ 396 ∷ 424 ∷ 455 ∷ 485 ∷ 516 ∷ 546 ∷ 577 ∷ 608 ∷ 638 ∷ 669 ∷ 699
    ∷ 730 ∷ 761 ∷ 790 ∷ 821 ∷ 851 ∷ 882 ∷ 912 ∷ 943 ∷ 974 ∷ 1004 ∷ 1035 ∷ 1065
    ∷ 1096 ∷ 1127 ∷ 1155 ∷ 1186 ∷ 1216 ∷ 1247 ∷ 1277 ∷ 1308 ∷ 1339 ∷ 1369 ∷ 1400 ∷ 1430
    ∷ 1461 ∷ 1492 ∷ 1520 ∷ 1551 ∷ 1581 ∷ 1612 ∷ 1642 ∷ 1673 ∷ 1704 ∷ 1734 ∷ 1765 ∷ 1795
    ∷ 1826 ∷ 1857 ∷ 1885 ∷ 1916 ∷ 1946 ∷ 1977 ∷ 2007 ∷ 2038 ∷ 2069 ∷ 2099 ∷ 2130 ∷ 2160
    ∷ 2191 ∷ 2222 ∷ 2251 ∷ 2282 ∷ 2312 ∷ 2343 ∷ 2373 ∷ 2404 ∷ 2435 ∷ 2465 ∷ 2496 ∷ 2526
    ∷ 2557 ∷ 2588 ∷ 2616 ∷ 2647 ∷ 2677 ∷ 2708 ∷ 2738 ∷ 2769 ∷ 2800 ∷ 2830 ∷ 2861 ∷ 2891
    ∷ 2922 ∷ 2953 ∷ 2981 ∷ 3012 ∷ 3042 ∷ 3073 ∷ 3103 ∷ 3134 ∷ 3165 ∷ 3195 ∷ 3226 ∷ 3256
    ∷ 3287 ∷ 3318 ∷ 3346 ∷ 3377 ∷ 3407 ∷ 3438 ∷ 3468 ∷ 3499 ∷ 3530 ∷ 3560 ∷ 3591 ∷ 3621
    ∷ 3652 ∷ 3683 ∷ 3712 ∷ 3743 ∷ 3773 ∷ 3804 ∷ 3834 ∷ 3865 ∷ 3896 ∷ 3926 ∷ 3957 ∷ 3987
    ∷ []

-- month-3, form-1: each entry is its month's first day
abbrev pub TableKeepsCalendar : Type 0
TableKeepsCalendar = (k : ℕ) → k < 132 → get_or month_starts k 0 ≡ first_day k
