-- A product family: the answers by which alone the book knows it, and the law that they keep.
use Rattle.std.specs.Prelude.{◌≡◌, ℕ, ◌+◌, ◌≤◌, Bool, true, ◌&&◌, Some, Option}
use Rattle.terms.specs.Units.{last_level, largest_units, largest_price, largest_value, is_units, is_price, is_lot_cash, is_claim}
use Rattle.terms.specs.declared.right.Right.{Right}
use Rattle.terms.specs.declared.event.Event.{Event}
use Rattle.terms.specs.declared.lot.Lot.{Lot}

pub record Answers : Type 0 where
  -- the letter of a level, and the level of a letter
  pub letter : ℕ → Option ℕ
  pub level : ℕ → Option ℕ
  -- the largest lot, in share units
  pub largest : ℕ
  -- whether a right and a strike fit
  pub fits : Right → ℕ → Bool
  -- whether an event moves the code
  pub moves : Event → Bool
  -- how a cash amount splits: the part kept in the lot, the part booked to the buyer
  pub kept : ℕ → ℕ
  pub booked : ℕ → ℕ
  -- a lot at a price, in micros; at expiry with the dollars of its claim
  pub trade : Lot → ℕ → ℕ
  pub mark : Lot → ℕ → ℕ
  pub final : Lot → ℕ → ℕ → ℕ

-- a lot within Units
abbrev pub lot_fits : Lot → Bool
lot_fits l = is_units l.units && (is_units l.strike_lot && is_lot_cash l.cash)

-- a right and a strike that fit, and all else within Units
abbrev pub priced : Answers → Lot → ℕ → Bool
priced a l price = a.fits l.right l.strike && (lot_fits l && is_price price)

pub record Law (a : Answers) : Type 0 where
  -- ten letters, all different: each level up to 9 has one and no other has,
  -- reading undoes writing and writing undoes reading
  pub lettered : (n : ℕ) → n ≤ last_level → (c : ℕ) × (a.letter n ≡ Some c)
  pub ten : (n c : ℕ) → a.letter n ≡ Some c → n ≤ last_level
  pub reads : (n c : ℕ) → a.letter n ≡ Some c → a.level c ≡ Some n
  pub writes : (n c : ℕ) → a.level c ≡ Some n → a.letter n ≡ Some c
  pub differ : (m n c : ℕ) → a.letter m ≡ Some c → a.letter n ≡ Some c → m ≡ n
  pub lot_least : 1 ≤ a.largest
  pub lot_most : a.largest ≤ largest_units
  pub strikes : (r : Right) (strike : ℕ) → a.fits r strike ≡ true → strike ≤ largest_price
  pub parts : (amount : ℕ) → a.kept amount + a.booked amount ≡ amount
  pub trade_in : (l : Lot) (price : ℕ) → priced a l price ≡ true → a.trade l price ≤ largest_value
  pub mark_in : (l : Lot) (price : ℕ) → priced a l price ≡ true → a.mark l price ≤ largest_value
  pub final_in : (l : Lot) (price dollars : ℕ) → priced a l price ≡ true → is_claim dollars ≡ true → a.final l price dollars ≤ largest_value
