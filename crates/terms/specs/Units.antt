-- What each number counts, and how large it may be.
use Rattle.std.specs.Prelude.{ℕ, Bool, ◌&&◌, nat_le}

-- a day counts from 1 January 2000
abbrev pub last_day : ℕ
last_day = 60000

-- a price is in cents
abbrev pub largest_price : ℕ
largest_price = 1000000

-- shares count in ten-thousandths of a share
abbrev pub largest_units : ℕ
largest_units = 400000000

-- a ratio is new shares for one old share, in billionths
abbrev pub largest_ratio : ℕ
largest_ratio = 10000000000

-- a rights rate is shares for one share, in billionths
abbrev pub largest_rate : ℕ
largest_rate = 1000000000

-- cash per share is in millionths of a dollar
abbrev pub largest_cash : ℕ
largest_cash = 500000000

-- cash in a lot is in whole dollars
abbrev pub largest_lot_cash : ℕ
largest_lot_cash = 100000000

-- what a claim is worth is in whole dollars
abbrev pub largest_claim : ℕ
largest_claim = 400000000

-- a family's values are in micros, millionths of a dollar
abbrev pub largest_value : ℕ
largest_value = 1000000000000000

-- the lots of a trade, and of an account in a line on either side
abbrev pub most_lots : ℕ
most_lots = 4000

-- an equity, in micros, on either side
abbrev pub most_equity : ℕ
most_equity = 4000000000000000000

-- the highest level that a code has a letter for
abbrev pub last_level : ℕ
last_level = 9

-- the largest account or stock number
abbrev pub largest_number : ℕ
largest_number = 4294967295

-- the ratio that leaves the number of shares as it is
abbrev pub one : ℕ
one = 1000000000

abbrev pub between : ℕ → ℕ → ℕ → Bool
between low high n = nat_le low n && nat_le n high

abbrev pub is_day : ℕ → Bool
is_day day = nat_le day last_day

abbrev pub is_price : ℕ → Bool
is_price cents = between 1 largest_price cents

abbrev pub is_units : ℕ → Bool
is_units units = between 1 largest_units units

abbrev pub is_ratio : ℕ → Bool
is_ratio ratio = between 1 largest_ratio ratio

abbrev pub is_rate : ℕ → Bool
is_rate rate = nat_le rate largest_rate

abbrev pub is_cash : ℕ → Bool
is_cash cash = nat_le cash largest_cash

abbrev pub is_lot_cash : ℕ → Bool
is_lot_cash dollars = nat_le dollars largest_lot_cash

abbrev pub is_claim : ℕ → Bool
is_claim dollars = nat_le dollars largest_claim

abbrev pub is_number : ℕ → Bool
is_number n = between 1 largest_number n

abbrev pub is_lots : ℕ → Bool
is_lots n = between 1 most_lots n
