-- What is claimed of the code, over the function's own contract. This must be believed; its proof stands beside this folder.
pub mod Exported
