-- What ties accounts and numbers (account-2, account-4, library-1, library-2). No choice matters here beside those of
-- specs/Numbers. Assumes nothing.
use Rattle.std.specs.Prelude.{ℕ, ◌≡◌, true, List, length}
use Rattle.account.specs.declared.Account.{Account}
use Rattle.numbers.specs.Numbers.{account_numbers, account_from, is_account}

-- library-1, account-2: an account is the account of its numbers, and these stand for an account
pub record AccountBack (a : Account) : Type 0 where
  pub known : is_account (account_numbers a) ≡ true
  pub back : account_from (account_numbers a) ≡ a

-- library-1, account-2: for every account; that its log has 1,599 numbers its type says
abbrev pub AccountOfItsNumbers : Type 0
AccountOfItsNumbers = (a : Account) → length a.log ≡ 1599 → AccountBack a

-- library-2, account-4: numbers that stand for an account are that account's, so none has two
pub record NumbersBack (xs : List ℕ) : Type 0 where
  pub sized : length (account_from xs).log ≡ 1599
  pub back : account_numbers (account_from xs) ≡ xs

-- library-2, account-4: for all numbers
abbrev pub NumbersOfTheirAccount : Type 0
NumbersOfTheirAccount = (xs : List ℕ) → is_account xs ≡ true → NumbersBack xs
