pub mod HelpWords
