-- What a decimal number is, and what it is worth in units of a power of ten.
use Rattle.std.specs.Prelude.{ℕ, zero, suc, ◌+◌, ◌-◌, ◌*◌, ◌/◌, ◌%◌, ◌^◌, Bool, cond, ◌&&◌, ◌||◌, List, length, take, drop, Some, None, Err, Option, Result, ◌==◌, nat_lt}
use Rattle.notation.specs.declared.numbers.Decimal.{Decimal}
use Rattle.notation.specs.declared.numbers.Misread.{Misread}
use Rattle.notation.specs.declared.numbers.Misread.TheVariants.{NotANumber, TooManyDecimals, TooLarge}
use Rattle.std.specs.Char.{is_ascii_digit}
use Rattle.std.specs.List.{fold, list_all, position_or_len}
use Rattle.std.specs.Option.{ok_or}

-- one digit or more
abbrev pub numeral : List ℕ → Bool
numeral text = nat_lt 0 (length text) && list_all is_ascii_digit text

-- the number that digits write, read on from n
abbrev pub number : ℕ → List ℕ → ℕ
number n ds = fold (λ k c. 10 * k + (c - 48)) n ds

-- how many bytes stand before the first point, which is byte 46
abbrev pub point : List ℕ → ℕ
point text = position_or_len (λ c. c == 46) text

abbrev pub before_point : List ℕ → List ℕ
before_point text = take (point text) text

abbrev pub after_point : List ℕ → List ℕ
after_point text = drop (point text + 1) text

-- digits, and where there is a point, digits after it
abbrev pub decimal : List ℕ → Bool
decimal text = numeral (before_point text) && (point text == length text || numeral (after_point text))

-- in units of 10^-places
abbrev pub worth : List ℕ → List ℕ → ℕ → ℕ
worth whole decimals places = number 0 whole * 10 ^ places + number 0 decimals * 10 ^ (places - length decimals)

-- a u64, or none
abbrev pub fitted : ℕ → Option ℕ
fitted n = cond (nat_lt n (2 ^ 64)) (Some n) None

-- too many decimals are told before too large a number
abbrev pub units : List ℕ → List ℕ → ℕ → Result ℕ Misread
units whole decimals places =
    cond (nat_lt places (length decimals)) (Err TooManyDecimals)
    (cond (nat_lt 18 places) (Err TooLarge) (ok_or (fitted (worth whole decimals places)) TooLarge))

-- what is no decimal is told before all else
abbrev pub read_decimal : List ℕ → ℕ → Result ℕ Misread
read_decimal text places = cond (decimal text) (units (before_point text) (after_point text) places) (Err NotANumber)

-- no zeros at the end of the decimals
abbrev pub trim : ℕ → ℕ → Decimal
trim n zero = record { value = n; places = 0 }
trim n (suc k) = cond (n % 10 == 0) (trim (n / 10) k) (record { value = n; places = suc k })
