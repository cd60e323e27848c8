-- A report line by line: what the lines so far tell of the book, and one line more.
use Rattle.std.proofs.Common.{◌≡◌, ℕ, ◌+◌, List, [], ◌∷◌, ◌++◌, map, Ok, Err, Result, MatchResult, IfOk, Vec, Global, vec_items, sym, refl, ap, ◌∙◌, subst, add-one, arith}
use Rattle.std.proofs.lemmas.List.{map-append}
use Rattle.std.proofs.lemmas.List.Sums.{fold-append}
use Rattle.margin.specs.declared.contract.Contract.{Contract}
use Rattle.margin.specs.Listing.{listed}
use Rattle.margin.specs.Meaning.{Meaning, raised_meaning}
use Rattle.ledger.specs.declared.call.Call.{Call}
use Rattle.ledger.specs.declared.settings.BaseScale.{BaseScale}
use Rattle.ledger.specs.declared.settings.Settings.{Settings}
use Rattle.ledger.specs.declared.tables.Tables.{Tables}
use Rattle.ledger.specs.Keeps.{Opened, KeptBy}
use Rattle.ledger.specs.Law.{contracts_of, margin_held, reserves}
use Rattle.ledger.specs.Ledger.{Ledger}
use Rattle.ledger.specs.Tests.{Answer}
use Rattle.ledger.proofs.Answered.{balance_answered}
use Rattle.ledger.specs.declared.refusal.Refusal.{Refusal}
use Rattle.ledger.specs.Runs.{ByTheRules, Run, Law, fed}
use Rattle.ledger.specs.Runs.Run.{start}
use Rattle.ledger.proofs.Running.{run_on, run_law, contracts_stay}
use Rattle.dayfile.specs.declared.file.DayFile.{DayFile}
use Rattle.dayfile.specs.Format.{call_at}
use Rattle.dayfile.specs.Read.{Says}
use Rattle.replay.specs.declared.report.Report.{Report}
use Rattle.replay.specs.declared.report.CallLine.{CallLine}
use Rattle.replay.specs.declared.report.EndLine.{EndLine}
use Rattle.replay.specs.Lines.{answer_of, event_of, events_of, LineOf, ledger_after, Explained, BalancesExplained}
use Rattle.replay.specs.Replayed.{base_meaning, numbered_calls, place_and_call, first_ledger, Told, DayReport, Reported, TextOf}
use Rattle.replay.specs.Text.{report_text}

balances_on : (m : Meaning) (cs : List Contract) (xs : List CallLine) (x : CallLine) (l : Ledger) →
    BalancesExplained m cs l xs → Explained m cs (fed cs (event_of x) (ledger_after cs xs l)) x.balance → BalancesExplained m cs l (xs ++ x ∷ [])
balances_on m cs [] x l h e = (e, tt)
balances_on m cs (y ∷ ys) x l h e = (h.0, balances_on m cs ys x (fed cs (event_of y) l) h.1 e)

-- where the law stands, the ledger explains the balance
explained : (m : Meaning) (b : Tables) (l : Ledger) (balance : ℕ) → Law m l b → balance ≡ b.funds.balance → Explained m (contracts_of b) l balance
explained m b l balance law is = omega arith

-- the answer that a line tells is the one that the book gave: its number or its refusal, and the balance that the book then has
pub answer_told : (m : Meaning) (b : Tables) (c : Call) (a : Answer) (outcome : Result ℕ Refusal) (balance : ℕ) (after : Tables) →
    ByTheRules m b c a after → MatchResult a (λ x. outcome ≡ Ok x.0) (λ e. outcome ≡ Err e) → balance ≡ after.funds.balance → a ≡ answer_of outcome balance
answer_told m b c (Ok x) outcome balance after by is same = rw is (ap (λ (n : ℕ). Ok (x.0, n)) (balance_answered m b c x after by ∙ sym same))
answer_told m b c (Err e) outcome balance after by is same = rw is refl

-- lines on a book that was opened as `first` and is now at `now`
pub record SoFar (m : Meaning) (s : Settings) (cs : List Contract) (first : Tables) (lines : List CallLine) (now : Tables) : Type 0 where
  pub opened : Opened cs s.permitted s.opening s.first_number first
  pub at_opening : Law m (first_ledger s) first
  pub run : Run m first (events_of lines) now
  pub law : Law m (ledger_after cs lines (first_ledger s)) now
  pub contracts : contracts_of now ≡ cs
  pub balances : BalancesExplained m cs (first_ledger s) lines

module _ (m : Meaning) (s : Settings) (cs : List Contract) (first : Tables) where
  pub none_told : Opened cs s.permitted s.opening s.first_number first → Law m (first_ledger s) first → SoFar m s cs first [] first
  none_told opened law = record { opened = opened; at_opening = law; run = start; law = law; contracts = opened.contracts; balances = tt }

  -- one line more
  pub one_told : (lines : List CallLine) (line : CallLine) (now after : Tables) (place : ℕ) (c : Call) → SoFar m s cs first lines now →
      LineOf m now place c line after → KeptBy m now c (answer_of line.outcome line.balance) after → SoFar m s cs first (lines ++ line ∷ []) after
  one_told lines line now after place c so told kept =
      let l = first_ledger s in
      let a = answer_of line.outcome line.balance in
      let before = ledger_after cs lines l in
      let step : ByTheRules m now line.call a after = rw told.call_is told.answered in
      let law : Law m (fed cs (event_of line) before) after = rw told.call_is (rw so.contracts at (kept before so.law).1) in
      let same : contracts_of after ≡ cs = contracts_stay m now c a after told.answered ∙ so.contracts in
      record {
        opened = so.opened;
        at_opening = so.at_opening;
        run = rw (map-append event_of lines (line ∷ [])) (run_on m first now after (events_of lines) (event_of line) so.run step);
        law = rw fold-append law;
        contracts = same;
        balances = balances_on m cs lines line l so.balances (rw same at (explained m after (fed cs (event_of line) before) line.balance law told.balance_is));
      }

  -- the lines of a whole day, and the end line
  pub all_told : (lines : List CallLine) (last : Tables) (end : EndLine) → SoFar m s cs first lines last →
      end ≡ record { balance = last.funds.balance; held = last.funds.held; reserves = last.funds.reserved; cash = last.funds.cash } → Told m cs s lines end
  all_told lines last end so is =
      let l = ledger_after cs lines (first_ledger s) in
      record {
        first = first;
        last = last;
        opened = so.opened;
        run = so.run;
        law = rw so.opened.contracts at (run_law m first last (events_of lines) so.run (first_ledger s) so.at_opening);
        balances = so.balances;
        end_is = is;
        end_explained = rw is (record {
          held = so.law.beside.held ∙ ap (λ x. margin_held m x l) so.contracts;
          reserved = so.law.beside.reserved ∙ ap (λ x. reserves m x l) so.contracts;
          cash = so.law.beside.cash;
          balance = rw so.contracts at (explained m last l last.funds.balance so.law refl);
        });
      }

-- the line of the call at k, put behind those of the first k
pub numbered_more : (m : Meaning) (bytes : List ℕ) (k : ℕ) (lines : List CallLine) (line : CallLine) (now after : Tables) (place : ℕ) (c : Call) → LineOf m now place c line after → place ≡ k + 1 → c ≡ call_at bytes k →
    map place_and_call lines ≡ numbered_calls bytes k → map place_and_call (lines ++ line ∷ []) ≡ numbered_calls bytes (k + 1)
numbered_more m bytes k lines line now after place c told at is so = rw (map-append, so, told.place_is, told.call_is, at, is, add-one) refl

-- the report of a file that was read from the bytes is theirs, over the base scale that its settings name
pub reported : (bytes : List ℕ) (d : DayFile) (s : Settings) (scale : BaseScale) (report : Report) → Says bytes d → s ≡ d.settings → s.scale ≡ scale →
    DayReport (raised_meaning d.settings.second_raise.value (raised_meaning d.settings.first_raise.value (base_meaning scale))) bytes d.settings (listed d.listing) report → Reported bytes report
reported bytes d s scale report says same is h =
    let named : scale ≡ d.settings.scale = sym is ∙ ap (λ (z : Settings). z.scale) same in
    record {
      sound = says.sound;
      settings = d.settings;
      settings_are = says.settings;
      contracts = listed d.listing;
      contracts_are = says.contracts;
      day = subst (λ x. DayReport (raised_meaning d.settings.second_raise.value (raised_meaning d.settings.first_raise.value (base_meaning x))) bytes d.settings (listed d.listing) report) named h;
    }

-- the text of a report of the bytes is their text
pub text_of : {E : Type 0} (bytes : List ℕ) (report : Report) (r : Result (Vec ℕ Global) E) → Reported bytes report → IfOk r (λ text. vec_items text ≡ report_text report) → IfOk r (λ text. TextOf bytes (vec_items text))
text_of bytes report (Ok text) reported is = rw (reported.sound, TextOf) (report, (reported, is))
text_of bytes report (Err e) reported is = tt
