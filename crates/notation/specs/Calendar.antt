-- The Gregorian calendar, and the days counted from 2000-01-01, which is day 0.
use Rattle.std.specs.Prelude.{ℕ, zero, suc, ◌+◌, ◌-◌, ◌%◌, ◌^◌, Bool, cond, not, ◌&&◌, ◌||◌, List, length, take, drop, Some, None, Option, ◌==◌, nat_le, nat_lt, slice_index}
use Rattle.notation.specs.Decimal.{numeral, number}
use Rattle.notation.specs.declared.dates.Date.{Date}

-- each fourth year, but of the full centuries only each fourth
abbrev pub leap : ℕ → Bool
leap year = year % 4 == 0 && (not (year % 100 == 0) || year % 400 == 0)

abbrev pub year_length : ℕ → ℕ
year_length year = cond (leap year) 366 365

abbrev pub month_length : ℕ → ℕ → ℕ
month_length year month =
    cond (month == 2) (cond (leap year) 29 28)
    (cond (month == 4 || (month == 6 || (month == 9 || month == 11))) 30 31)

-- f 0 + f 1 + .., so many terms
abbrev pub total : (ℕ → ℕ) → ℕ → ℕ
total f zero = 0
total f (suc n) = total f n + f n

-- the days from 2000-01-01 to the first of January of a year
abbrev pub days_before_year : ℕ → ℕ
days_before_year year = total (λ n. year_length (2000 + n)) (year - 2000)

-- the days from the first of January to the first of a month
abbrev pub days_before_month : ℕ → ℕ → ℕ
days_before_month year month = total (λ n. month_length year (1 + n)) (month - 1)

-- there is such a date, from 2000 on
abbrev pub real : Date → Bool
real d =
    nat_le 2000 d.year
    && (nat_le 1 d.month
    && (nat_le d.month 12 && (nat_le 1 d.day && nat_le d.day (month_length d.year d.month))))

abbrev pub day_number : Date → ℕ
day_number d = days_before_year d.year + days_before_month d.year d.month + (d.day - 1)

-- a u16, or none
abbrev pub to_day : Date → Option ℕ
to_day d = cond (real d && nat_lt (day_number d) (2 ^ 16)) (Some (day_number d)) None

-- ten bytes, with a dash, which is byte 45, after four of them and after two more
abbrev pub dashed : List ℕ → Bool
dashed text = length text == 10 && (slice_index text 4 == 45 && slice_index text 7 == 45)

abbrev pub year_part : List ℕ → List ℕ
year_part text = take 4 text

abbrev pub month_part : List ℕ → List ℕ
month_part text = take 2 (drop 5 text)

abbrev pub day_part : List ℕ → List ℕ
day_part text = take 2 (drop 8 text)

abbrev pub written_date : List ℕ → Date
written_date text = record {
  year = number 0 (year_part text);
  month = number 0 (month_part text);
  day = number 0 (day_part text);
}

-- four digits, two and two, and the day of the date that they write
abbrev pub read_date : List ℕ → Option ℕ
read_date text =
    cond (dashed text && (numeral (year_part text) && (numeral (month_part text) && numeral (day_part text))))
    (to_day (written_date text)) None
