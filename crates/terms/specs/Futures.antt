-- Stock futures.
use Rattle.std.specs.Prelude.{ℕ, ◌+◌, ◌*◌, Bool, false, not, codes, ◌==◌}
use Rattle.terms.specs.Family.{Answers}
use Rattle.terms.specs.Letters.{letter_in, level_in}
use Rattle.terms.specs.Events.{cash_alone}
use Rattle.terms.specs.declared.right.Right.{Right}
use Rattle.terms.specs.declared.right.Right.TheVariants.{Without, Call, Put}
use Rattle.terms.specs.declared.lot.Lot.{Lot}

-- right and strike are 0
abbrev pub futures_fits : Right → ℕ → Bool
futures_fits Without strike = strike == 0
futures_fits Call strike = false
futures_fits Put strike = false

abbrev pub futures_value : Lot → ℕ → ℕ
futures_value l price = price * l.units

abbrev pub futures : Answers
futures =
    record {
      letter = letter_in (codes "F123456789");
      level = level_in (codes "F123456789");
      largest = 400000000;
      fits = futures_fits;
      moves = λ e. not (cash_alone e);
      kept = λ amount. 0;
      booked = λ amount. amount;
      trade = futures_value;
      mark = futures_value;
      final = λ l price dollars. futures_value l price + dollars * 1000000;
    }
